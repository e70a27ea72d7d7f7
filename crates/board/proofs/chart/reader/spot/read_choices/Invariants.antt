use Rattle.std.proofs.Common.{◌≡◌, ◌-◌, []}
use Rattle.wire.specs.Reading.{steps}
use Rattle.board.specs.ChartSpots.{kept}
use Rattle.board.specs.Reading.{one_more, choice_of}
use Rattle.board.proofs.chart.reader.spot.read_choices.Given as goal

abbrev pub invariant-loop : goal.invariant-loop
invariant-loop l =
    let f = one_more (choice_of l.fn.reader.bytes.now l.fn.size.positions) in
    (l.reader.bytes.now ≡ l.fn.reader.bytes.now)
    × (l.choices.count ≡ l.counter)
    × (steps f (l.fn.size.choices - l.counter) l.counter (l.reader.at, kept l.choices) ≡ steps f l.fn.size.choices 0 (l.fn.reader.at, []))
