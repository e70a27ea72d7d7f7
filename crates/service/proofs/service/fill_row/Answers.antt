use Rattle.std.proofs.Common.{◌≡◌, Ok, Err, ap, ◌∙◌, arith}
use Rattle.std.proofs.lemmas.List.{length-take}
use Rattle.wire.specs.Reading.{and_then}
use Rattle.service.specs.File.{entry_of}
use Rattle.service.proofs.Turns.{front_more, front_stops, fails}
use Rattle.service.proofs.service.fill_row.Goals as goal

pub returns-in_err-slot-clause-fills : goal.returns-in_err-slot-clause-fills
returns-in_err-slot-clause-fills c =
    let read = entry_of c.args.reader.now.bytes.now c.args.high in
    let step : read c.loop-slot.reader.at 0 ≡ Err c.in_err-slot.field-0.0 = ap (λ r. and_then r (λ p. Ok (p.1, p.0))) (rw c.loop-slot.invariant.bytes at c.in_err-slot.ensures.moves.0) in
    fails _ _ _ _ _ c.from_residual.ensures.1 (front_stops 0 read c.args.actions c.loop-slot.slot-index c.loop-slot.reader.at c.loop-slot.slot-items _ _ c.loop-slot.invariant.reads (omega (arith, length-take c.from.result c.args.row.now)) (omega arith) _ step)

pub loop-slot-preserved : goal.loop-slot-preserved
loop-slot-preserved c =
    let read = entry_of c.args.reader.now.bytes.now c.args.high in
    let step : read c.loop-slot.reader.at 0 ≡ Ok (c.field.new.self.at, c.in_ok-slot.field-0) = ap (λ r. and_then r (λ p. Ok (p.1, p.0))) (rw c.loop-slot.invariant.bytes at c.in_ok-slot.ensures.moves) in
    record {
      bytes = c.field.ensures.bytes ∙ c.loop-slot.invariant.bytes;
      reads = front_more 0 read c.args.actions c.loop-slot.slot-index c.loop-slot.reader.at c.loop-slot.slot-items _ _ c.loop-slot.invariant.reads (omega (arith, length-take c.from.result c.args.row.now)) (omega arith) _ _ step;
    }
