use Rattle.std.proofs.Common.{◌∙◌, arith}
use Rattle.service.specs.File.{service_of, no_service}
use Rattle.service.proofs.Turns.{slot_more, slot_stops, fails}
use Rattle.service.proofs.file.CommunityFile.fill_services.Goals as goal

pub returns-in_err-fill-clause-fills : goal.returns-in_err-fill-clause-fills
returns-in_err-fill-clause-fills c =
    fails _ _ _ _ _ c.from_residual.ensures.1 (rw (← c.from-i-end.ensures)
    (slot_stops no_service (service_of c.args.reader.now.bytes.now c.args.self.now.actions) _ _ _ _ _ c.loop-i.invariant.reads (omega arith) _ (rw (c.loop-i.invariant.bytes, c.loop-i.invariant.shape.1) at c.in_err-fill.ensures.fills)))

pub loop-i-preserved : goal.loop-i-preserved
loop-i-preserved c = record {
  bytes = c.fill.ensures.bytes ∙ c.loop-i.invariant.bytes;
  shape = c.loop-i.invariant.shape;
  reads = slot_more no_service (service_of c.args.reader.now.bytes.now c.args.self.now.actions) _ _ _ _ _ c.loop-i.invariant.reads (omega arith) _ _ (rw (c.loop-i.invariant.bytes, c.loop-i.invariant.shape.1) at c.in_ok-fill.ensures.fills);
}
