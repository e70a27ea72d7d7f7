-- What a chart keeps at a position, as what stands there.
use Rattle.std.specs.Prelude.{ℕ, List, map, take, vec_items, Vec}
use Rattle.board.specs.declared.chart.spot.Outcomes.{Outcomes}
use Rattle.board.specs.declared.chart.spot.Choices.{Choices}
use Rattle.board.specs.declared.chart.spot.ChartSpot.{ChartSpot}
use Rattle.board.specs.declared.chart.spot.ChartSpot.TheVariants as spot
use Rattle.board.specs.Spot.{Seen, Done, Open}

-- the first of the slots
abbrev pub listed : Outcomes → List ℕ
listed x = take x.count x.slots

abbrev pub kept : Choices → List (List ℕ)
kept x = map listed (take x.count x.slots)

abbrev pub shown : ChartSpot → Seen
shown spot.Done = Done
shown (spot.Open x) = Open (kept x)

abbrev pub all_shown : {Z : Type 0} → Vec ChartSpot Z → List Seen
all_shown xs = map shown (vec_items xs)
