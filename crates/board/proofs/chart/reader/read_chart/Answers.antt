use Rattle.std.proofs.Common.{inl, inr, ⊎_elim, arith}
use Rattle.std.proofs.lemmas.List.{length-map}
use Rattle.board.specs.ChartSpots.{shown, all_shown}
use Rattle.board.specs.Reading.{Sheet}
use Rattle.board.proofs.Sheets.{law_read, law_refused, read_sized}
use Rattle.board.proofs.chart.reader.read_chart.Goals as goal

pub invariant_of-out : goal.invariant_of-out
invariant_of-out c =
    let read = c.read_whole.new.spots in
    let x : Sheet = record { positions = c.in-Ok.size.positions; choices = c.in-Ok.size.choices; spots = all_shown read } in
    let r = read_sized c.args.bytes.now (λ i. (c.type_inv.bytes i).fits) x c.in-Ok.ensures in
    record { sized = omega (arith, r.0, length-map read.items shown, read.ok.0); sound = r.1 }

pub returns-in-Ok-clause-law : goal.returns-in-Ok-clause-law
returns-in-Ok-clause-law c =
    let x : Sheet = record { positions = c.in-Ok.size.positions; choices = c.in-Ok.size.choices; spots = all_shown c.read_whole.new.spots } in
    law_read c.args.bytes.now (λ i. (c.type_inv.bytes i).fits) x c.in-Ok.ensures

pub returns-in-Err-clause-law : goal.returns-in-Err-clause-law
returns-in-Err-clause-law c = ⊎_elim (λ r. inr (law_refused c.args.bytes.now c.in-Err.refusal r)) inl c.in-Err.ensures
