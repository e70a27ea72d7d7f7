use Rattle.std.proofs.Common.{◌≡◌, ◌-◌, []}
use Rattle.wire.specs.Reading.{steps}
use Rattle.board.specs.ChartSpots.{all_shown}
use Rattle.board.specs.Reading.{one_more, spot_of}
use Rattle.board.proofs.chart.reader.read_spots.Given as goal

abbrev pub invariant-loop : goal.invariant-loop
invariant-loop l =
    let f = one_more (spot_of l.fn.reader.bytes.now l.fn.size.positions l.fn.size.choices) in
    (l.reader.bytes.now ≡ l.fn.reader.bytes.now) × (steps f (l.fn.size.positions - l.counter) l.counter (l.reader.at, all_shown l.spots) ≡ steps f l.fn.size.positions 0 (l.fn.reader.at, []))
