use Rattle.std.proofs.Common.{◌≡◌, ◌-◌, ◌≤◌, false, length, get_or, drop, vec_items, ap, ◌∙◌, ap₂, arith, rules}
use Rattle.std.proofs.lemmas.List.{take_all, length-reverse}
use Rattle.std.proofs.lemmas.Bool.Decides.{Decides-at}
use Rattle.std.proofs.lemmas.Iterator.Adapters.{YieldsList-from_rev_slice}
use Rattle.std.proofs.lemmas.Iterator.Consumers.{YieldsList-end}
use Rattle.ltlf.specs.Nodes.{formula_of}
use Rattle.ltlf.specs.Rows.{truths}
use Rattle.ltlf.specs.Tasks.{task_formula}
use Rattle.ltlf.specs.Truth.{satisfied}
use Rattle.ltlf.proofs.Step.{by_suffix}
use Rattle.ltlf.proofs.Means.{decided}
use Rattle.ltlf.proofs.Suffixes.{row_first}
use Rattle.ltlf.proofs.truth.satisfies.Goals as goal

pub returns : goal.returns
returns c =
    let nodes = c.nodes-nodes.result.now in
    let items = vec_items c.args.task.now.nodes in
    let trace = c.args.trace.now in
    let few : length items ≤ 64 = search rules in
    let all = YieldsList-end (YieldsList-from_rev_slice trace cc) c.loop-action.yielded _ c.loop-action.yielded_by _ _ c.in-None.is c.next.ensures.steps in
    let none : length trace - length c.loop-action.yielded ≡ 0 = omega (arith, all.1, length-reverse trace) in
    let whole : c.loop-action.row ≡ truths items trace =
    c.loop-action.invariant.row ∙ ap₂ (λ xs k. truths xs (drop k trace)) c.nodes-nodes.ensures none in
    let value : get_or c.loop-action.row 0 false ≡ satisfied (task_formula c.args.task.now) trace =
    ap (λ row. get_or row 0 false) whole ∙ row_first items trace ∙ ap (λ xs. satisfied (formula_of xs) trace) (take_all 64 items few) in
    record { value = value; means = Decides-at _ _ value (decided (task_formula c.args.task.now) trace 0); edges = by_suffix }
