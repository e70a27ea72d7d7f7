use Rattle.std.proofs.Common.{◌≡◌, ◌-◌, []}
use Rattle.wire.specs.Reading.{steps}
use Rattle.board.specs.ChartSpots.{listed}
use Rattle.board.specs.Reading.{outcome_of}
use Rattle.board.proofs.chart.reader.spot.read_choice.Given as goal

abbrev pub invariant-loop : goal.invariant-loop
invariant-loop l =
    let f = outcome_of l.fn.reader.bytes.now l.fn.size.positions in
    (l.reader.bytes.now ≡ l.fn.reader.bytes.now)
    × (l.outcomes.count ≡ l.counter)
    × (steps f (l.count - l.counter) l.counter (l.reader.at, l.low, listed l.outcomes) ≡ steps f l.count 0 (l.initial.reader.at, 0, []))
