use Rattle.std.proofs.Common.{◌≡◌, ℕ, ◌-◌, length, set, Ok, Err, vec_items, sym, refl, ap, ◌∙◌, subst, arith}
use Rattle.std.specs.Vec.{with_item}
use Rattle.std.proofs.lemmas.Result.{err_from_is_err_and}
use Rattle.ltlf.specs.Formula.{Formula}
use Rattle.ltlf.specs.Steps.{with_second, Taken, Grown, Grows}
use Rattle.ltlf.proofs.Growth.{carried, grown_lone, grows_before, refused_first, grows_both}
use Rattle.ltlf.proofs.reader.Parser.+formula.Goals as goal
use Rattle.ltlf.proofs.reader.Parser.+formula.Goals.{After-operands_of}

-- the sign was taken as the number of the nodes before it
taken : (t : ℕ) (c : After-operands_of t) → Taken c.args.self.now.actions c.args.self.now.text.now c.args.levels (length (vec_items c.args.nodes.now)) c.args.self.now.progress c.take_sign.new.self.progress c.in_ok-node.node
taken t c =
    let p = c.args.self.now in
    let counted : c.len-top.result ≡ length (vec_items c.args.nodes.now) = c.len-top.ensures ∙ c.args.nodes.now.ok.0 in
    subst (λ m. Taken p.actions p.text.now c.args.levels m p.progress c.take_sign.new.self.progress c.in_ok-node.node) counted c.in_ok-node.ensures.takes

pub returns-in_err-formula-in-Two-clause-grows : goal.returns-in_err-formula-in-Two-clause-grows
returns-in_err-formula-in-Two-clause-grows t c =
    let k = c.args.self.now.actions in
    let bs = c.args.self.now.text.now in
    let l = c.args.levels in
    let p = c.args.self.now.progress in
    let q = c.take_sign.new.self.progress in
    let xs = vec_items c.args.nodes.now in
    let x = c.in_ok-node.node in
    let tk = taken t (goal.at.returns-in_err-formula-in-Two-clause-grows t c).After-operands_of in
    let pushed = c.in_ok-push.ensures.items in
    let r = c.formula-in-Two.new.self.progress in
    let ys = vec_items c.formula-in-Two.new.nodes in
    let refusal = c.in_err-formula-in-Two.field-0.0 in
    let e = err_from_is_err_and c.from_residual-in_err-formula-in-Two.result c.from_residual-in_err-formula-in-Two.ensures.1 in
    let first = carried k _ bs _ (l - 1) q r _ _ ys (Err refusal) c.take_sign.ensures.same_actions c.take_sign.ensures.same_text pushed c.in_err-formula-in-Two.ensures.grows in
    subst (λ a. Grows k bs l p r xs ys a) (sym (e.1 ∙ ap Err e.2)) (refused_first k bs l p q xs x tk (omega arith) r ys (sym c.in-Two.ensures) refusal first)

pub returns-in-Zero-clause-grows : goal.returns-in-Zero-clause-grows
returns-in-Zero-clause-grows t c =
    let k = c.args.self.now.actions in
    let bs = c.args.self.now.text.now in
    let l = c.args.levels in
    let p = c.args.self.now.progress in
    let q = c.take_sign.new.self.progress in
    let xs = vec_items c.args.nodes.now in
    let x = c.in_ok-node.node in
    let tk = taken t (goal.at.returns-in-Zero-clause-grows t c).After-operands_of in
    let pushed = c.in_ok-push.ensures.items in
    subst (λ ns. (f : Formula) × Grown k bs l p q xs ns f) (sym pushed) (grown_lone k bs l p q xs x tk (omega arith) (sym c.in-Zero.ensures))

pub returns-in-One-clause-grows : goal.returns-in-One-clause-grows
returns-in-One-clause-grows t c =
    let k = c.args.self.now.actions in
    let bs = c.args.self.now.text.now in
    let l = c.args.levels in
    let p = c.args.self.now.progress in
    let q = c.take_sign.new.self.progress in
    let xs = vec_items c.args.nodes.now in
    let x = c.in_ok-node.node in
    let tk = taken t (goal.at.returns-in-One-clause-grows t c).After-operands_of in
    let pushed = c.in_ok-push.ensures.items in
    let r = c.formula.new.self.progress in
    let ys = vec_items c.formula.new.nodes in
    let a = c.formula.result in
    grows_before k bs l p q xs x tk (omega arith) r ys (sym c.in-One.ensures) a
    (carried k _ bs _ (l - 1) q r _ _ ys a c.take_sign.ensures.same_actions c.take_sign.ensures.same_text pushed c.formula.ensures.grows)

pub returns-in_ok-formula-in-Two-clause-grows : goal.returns-in_ok-formula-in-Two-clause-grows
returns-in_ok-formula-in-Two-clause-grows t c =
    let k = c.args.self.now.actions in
    let bs = c.args.self.now.text.now in
    let l = c.args.levels in
    let p = c.args.self.now.progress in
    let q = c.take_sign.new.self.progress in
    let xs = vec_items c.args.nodes.now in
    let x = c.in_ok-node.node in
    let counted : c.len-top.result ≡ length xs = c.len-top.ensures ∙ c.args.nodes.now.ok.0 in
    let tk = taken t (goal.at.returns-in_ok-formula-in-Two-clause-grows t c).After-operands_of in
    let pushed = c.in_ok-push.ensures.items in
    let r = c.formula-in-Two.new.self.progress in
    let v = c.formula-in-Two.new.nodes in
    let ys = vec_items v in
    let g = carried k _ bs _ (l - 1) q r _ _ ys (Ok tt) c.take_sign.ensures.same_actions c.take_sign.ensures.same_text pushed c.in_ok-formula-in-Two.ensures.grows in
    let zs = vec_items (with_item v c.len-top.result c.with_second.result) in
    let mended : zs ≡ set ys (length xs) (with_second x (length ys)) = λ i. set ys (counted i) ((c.with_second.ensures ∙ ap (with_second x) (c.len-second.ensures ∙ v.ok.0)) i) in
    let s = c.formula-in-Two-2.new.self.progress in
    let ws = vec_items c.formula-in-Two-2.new.nodes in
    let a = c.formula-in-Two-2.result in
    let actions = c.formula-in-Two.ensures.same_actions ∙ c.take_sign.ensures.same_actions in
    let text = c.formula-in-Two.ensures.same_text ∙ c.take_sign.ensures.same_text in
    grows_both k bs l p q xs x tk (omega arith) r ys (sym c.in-Two.ensures) g.0 g.1 zs mended s ws a
    (carried k _ bs _ (l - 1) r s _ _ ws a actions text refl c.formula-in-Two-2.ensures.grows)
