use Rattle.std.proofs.Common.{◌≡◌, suc, ◌+◌, ◌<◌, length, get_or, Err, sym, refl, ap, ◌∙◌, rules}
use Rattle.ltlf.specs.Prefix.{sign_node, node_of}
use Rattle.ltlf.proofs.Signs.{unknown, breaks, takes, of_byte}
use Rattle.ltlf.proofs.reader.Parser.take_sign.Goals as goal
use Rattle.ltlf.proofs.reader.Parser.take_sign.Goals.{After-node_of}

-- the byte behind the blanks, and its node
found : (c : After-node_of) → (c.past_blanks-at.result < length c.args.self.now.text.now) × (node_of (get_or c.args.self.now.text.now c.past_blanks-at.result 0) (suc c.args.count) ≡ c.node_of.result)
found c =
    let b = get_or c.args.self.now.text.now c.past_blanks-at.result 0 in
    let byte : c.from.result ≡ b = search rules in
    (search rules, of_byte b c.args.count _ (c.node_of.ensures ∙ ap (λ a. sign_node a (c.args.count + 1)) byte))

pub returns-in_default-node_of-clause-takes : goal.returns-in_default-node_of-clause-takes
returns-in_default-node_of-clause-takes c ds =
    let p = c.args.self.now in
    let f = found (goal.at.returns-in_default-node_of-clause-takes c).After-node_of in
    unknown p.actions p.text.now c.args.levels c.args.count p.progress _ c.past_blanks-at.ensures f.0 (f.1 ∙ c.in_default-node_of.is) ds
    ∙ sym (ap Err c.at-in_default-node_of.ensures)

pub returns-in-Some-broken_limit-clause-takes : goal.returns-in-Some-broken_limit-clause-takes
returns-in-Some-broken_limit-clause-takes c ds =
    let p = c.args.self.now in
    let f = found (goal.at.returns-in-Some-broken_limit-clause-takes c).After-node_of in
    breaks p.actions p.text.now c.args.levels c.args.count p.progress _ c.past_blanks-at.ensures f.0
    c.in-Some-node_of.node c.in-Some-broken_limit.cause (f.1 ∙ c.in-Some-node_of.is) (sym c.in-Some-broken_limit.ensures) ds
    ∙ sym (ap Err c.at-in-Some-broken_limit.ensures)

pub returns-clause-takes : goal.returns-clause-takes
returns-clause-takes c =
    let p = c.args.self.now in
    let f = found (goal.at.returns-clause-takes c).After-node_of in
    takes p.actions p.text.now c.args.levels c.args.count p.progress _ c.past_blanks-at.ensures f.0
    c.in-Some-node_of.node _ (f.1 ∙ c.in-Some-node_of.is) (sym c.in_default-broken_limit.ensures) p.few_temporals refl (search rules)
