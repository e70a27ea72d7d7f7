use Rattle.std.proofs.Common.{◌≡◌, ℕ, suc, ◌+◌, ◌<◌, List, [], length, get_or, drop, Err, vec_items, sym, ap, ◌∙◌, subst, inl, rules}
use Rattle.ltlf.specs.Prefix.{sign_node, node_of, judge, start}
use Rattle.ltlf.specs.Steps.{Skipped, Grown, seen}
use Rattle.ltlf.proofs.Signs.{of_byte}
use Rattle.ltlf.proofs.Endings.{origin, behind_unknown, behind_more}
use Rattle.ltlf.proofs.reader.read_whole.Goals as goal
use Rattle.ltlf.proofs.reader.read_whole.Goals.{After-node_of}

module _ (c : After-node_of) where
  abbrev bs : List ℕ
  bs = c.args.text.now

  abbrev many : ℕ
  many = length (vec_items c.formula.new.nodes)

  abbrev i : ℕ
  i = c.past_blanks-at.result

  behind : Skipped bs c.formula.new.self.progress.at i
  behind = subst (λ t. Skipped t c.formula.new.self.progress.at i) c.formula.ensures.same_text c.past_blanks-at.ensures

  read : judge c.args.actions start 0 bs ≡ judge c.args.actions (seen c.formula.new.self.progress many []) c.formula.new.self.progress.at (drop c.formula.new.self.progress.at bs)
  read =
      let w = c.in_ok-formula.ensures.grows in
      (subst (λ ns. Grown c.args.actions bs 16 origin c.formula.new.self.progress ns (vec_items c.formula.new.nodes) w.0) c.requires w.1).verdict []

  inside : i < length bs
  inside = search rules

  -- the node of the byte behind the formula and the blanks
  sign : node_of (get_or bs i 0) (suc many) ≡ c.node_of.result
  sign =
      let byte : c.from.result ≡ get_or bs i 0 = search rules in
      let as_many : c.len.result ≡ many = c.len.ensures ∙ c.formula.new.nodes.ok.0 in
      of_byte (get_or bs i 0) many _ (c.node_of.ensures ∙ (λ j. sign_node (byte j) (as_many j + 1)))

pub returns-in-None-clause-whole : goal.returns-in-None-clause-whole
returns-in-None-clause-whole c =
    let a = (goal.at.returns-in-None-clause-whole c).After-node_of in
    inl (behind_unknown c.args.actions (bs a) c.formula.new.self.progress (many a) (i a) (behind a) (read a) (inside a) (sign a ∙ c.in-None.is) ∙ sym (ap Err c.at.ensures))

pub returns-in-Some-node_of-clause-whole : goal.returns-in-Some-node_of-clause-whole
returns-in-Some-node_of-clause-whole c =
    let a = (goal.at.returns-in-Some-node_of-clause-whole c).After-node_of in
    inl (behind_more c.args.actions (bs a) c.formula.new.self.progress (many a) (i a) (behind a) (read a) (inside a) c.in-Some-node_of.field-0 (sign a ∙ c.in-Some-node_of.is) ∙ sym (ap Err c.at-in-Some-node_of.ensures))
