use Rattle.std.proofs.Common.{◌≡◌, [], Err, ◌∙◌, arith, rules}
use Rattle.std.proofs.lemmas.List.{length-take}
use Rattle.service.specs.File.{row_of, table_of, service_of}
use Rattle.service.proofs.Turns.{front_more, front_stops, fails}
use Rattle.service.proofs.service.fill.Goals as goal

pub returns-in_err-fill_row-clause-fills : goal.returns-in_err-fill_row-clause-fills
returns-in_err-fill_row-clause-fills c =
    let bs = c.args.reader.now.bytes.now in
    let table : table_of bs c.in_ok-states.states c.args.actions c.full_set-high.result c.field-3.new.self.at c.args.x.now.entries ≡ Err c.in_err-fill_row.field-0.0 =
    front_stops [] (row_of bs c.args.actions c.full_set-high.result) _ _ _ _ _ _ c.loop-row.invariant.reads (omega (arith, length-take c.from.result c.args.x.now.entries)) (omega arith) _ (rw c.loop-row.invariant.bytes at c.in_err-fill_row.ensures.fills) in
    let whole : service_of bs c.args.actions c.args.reader.now.at c.args.x.now ≡ Err c.in_err-fill_row.field-0.0 = search rules in
    fails _ _ _ _ _ c.from_residual-in_err-fill_row.ensures.1 whole

pub loop-row-preserved : goal.loop-row-preserved
loop-row-preserved c = record {
  bytes = c.fill_row.ensures.bytes ∙ c.loop-row.invariant.bytes;
  reads = front_more [] (row_of c.args.reader.now.bytes.now c.args.actions c.full_set-high.result) _ _ _ _ _ _ c.loop-row.invariant.reads (omega (arith, length-take c.from.result c.args.x.now.entries)) (omega arith) _ _ (rw c.loop-row.invariant.bytes at c.in_ok-fill_row.ensures.fills);
}
