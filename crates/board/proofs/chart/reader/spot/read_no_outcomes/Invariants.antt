use Rattle.std.proofs.Common.{◌≡◌, ◌-◌}
use Rattle.wire.specs.Reading.{steps}
use Rattle.board.specs.Reading.{no_outcome_of}
use Rattle.board.proofs.chart.reader.spot.read_no_outcomes.Given as goal

abbrev pub invariant-loop : goal.invariant-loop
invariant-loop l =
    let f = no_outcome_of l.fn.reader.bytes.now in
    (l.reader.bytes.now ≡ l.fn.reader.bytes.now) × (steps f (l.fn.size.choices - l.counter) l.counter l.reader.at ≡ steps f l.fn.size.choices 0 l.fn.reader.at)
