use Rattle.std.proofs.Common.{◌≡◌, ◌≤◌, length, take, set, sym, ap, ap₂, ◌∙◌, subst, arith, rules}
use Rattle.std.proofs.lemmas.List.{length-take}
use Rattle.ltlf.specs.Rows.{operand_bit}
use Rattle.ltlf.proofs.Passes.{Working, begins, turn, ends, one_fewer}
use Rattle.ltlf.proofs.truth.row_by.Goals as goal

pub loop-n-init : goal.loop-n-init
loop-n-init g c =
    let nodes = c.args.nodes.now in
    let left = c.into_iter-n-iterator.result.iter.iter.rest.now in
    let all : left ≡ take c.min.result nodes = search rules in
    let long : length left ≡ c.min.result = omega (arith, ap length all, length-take c.min.result nodes) in
    record {
      from_zero = search rules;
      first = all ∙ ap (λ n. take n nodes) (sym long);
      few = omega (arith, long);
      working = λ r h. begins r nodes _ (omega (arith, long));
    }

pub loop-n-preserved : goal.loop-n-preserved
loop-n-preserved g c =
    let nodes = c.args.nodes.now in
    let left = c.loop-n.n-iterator.iter.iter.rest.now in
    let fewer = c.next.new.self.iter.iter.rest.now in
    let row = c.loop-n.row in
    let v = c.rule.result in
    let node = c.in-Some.node.now in
    let step = c.in-Some.ensures.steps in
    let kept = c.loop-n.invariant in
    let one = one_fewer nodes left fewer node step.1.0 kept.first in
    let at : c.in-Some.n ≡ length fewer = omega (arith, step.1.1, kept.from_zero) in
    let few : length left ≤ length nodes = omega (arith, ap length kept.first, length-take (length left) nodes) in
    record {
      from_zero = step.0 ∙ kept.from_zero;
      first = one.0;
      few = omega (arith, one.1, kept.few);
      working = λ r h.
          subst (λ m. Working r nodes (set row m v) (length fewer)) (sym at)
          (turn r nodes (length fewer) row v node (omega (arith, one.1, few, kept.few))
          (subst (λ m. Working r nodes row m) one.1 (kept.working r h))
          (h _ _ _ _ (omega (arith, at, one.1, kept.few)) c.rule.ensures ∙ ap₂ (λ m x. r m (operand_bit m row) x) at (one.2 node)));
    }

pub returns : goal.returns
returns g c r h = ends r c.args.nodes.now _ c.loop-n.row (omega (arith, c.in-None.ensures.steps.1.0)) (c.loop-n.invariant.working r h)
