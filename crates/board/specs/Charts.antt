-- What a chart means as a board.
use Rattle.std.specs.Prelude.{ℕ, vec_items}
use Rattle.std.proofs.Common.{arith}
use Rattle.std.proofs.lemmas.List.{length-map}
use Rattle.board.specs.declared.chart.Chart.{Chart}
use Rattle.board.specs.Arena.{Arena, Lawful}
use Rattle.board.specs.Reading.{Sheet}
use Rattle.board.specs.Layout.{Limits, Sized}
use Rattle.board.specs.ChartSpots.{shown, all_shown}
use Rattle.board.specs.Spots.{arena_of, lawful_of}

abbrev pub chart_arena : Chart → Arena
chart_arena x = arena_of x.size.positions x.size.choices (all_shown x.spots)

abbrev pub sheet : Chart → Sheet
sheet x = record { positions = x.size.positions; choices = x.size.choices; spots = all_shown x.spots }

-- every chart is lawful
sized : (n k : ℕ) → Limits n k → Sized n k
sized n k z = (z.0, omega (arith, z.1), z.2, omega (arith, z.3))

pub chart_lawful : (x : Chart) → Lawful (chart_arena x)
chart_lawful x =
    lawful_of x.size.positions x.size.choices (all_shown x.spots) (sized x.size.positions x.size.choices x.size.limits)
    (omega (arith, x.sized, x.spots.ok.0, length-map (vec_items x.spots) shown)) x.sound
