-- The laws of tables.
use Rattle.std.specs.Prelude.{◌≡◌, ℕ, ◌<◌, ◌≤◌, true, List}
use Rattle.board.specs.Lists.{Member}
use Rattle.board.specs.Arena.{Arena, Lawful}
use Rattle.board.specs.Ranks.{ranked, rank, Forces}
use Rattle.board.specs.declared.table.Row.{Row}
use Rattle.board.specs.Table.{Accepted, rank_in, choice_in, row, solution}

-- solve answers the row of each ranked position, and no other row
abbrev pub SolutionIsRanked : Type 0
SolutionIsRanked = (b : Arena) (r : Row) → (Member r (solution b) → (r ≡ row b r.position) × (r.position < b.positions) × (ranked b r.position ≡ true)) × ((p : ℕ) → p < b.positions → ranked b p ≡ true → Member (row b p) (solution b))

-- what solve answers is accepted
abbrev pub SolutionIsAccepted : Type 0
SolutionIsAccepted = (b : Arena) → Lawful b → ranked b 0 ≡ true → Accepted b (solution b)

-- the choices of an accepted table force success within its rank of the start
abbrev pub AcceptedForces : Type 0
AcceptedForces = (b : Arena) → Lawful b → (rows : List Row) → Accepted b rows → Forces b (λ h. choice_in rows h.0) (rank_in rows 0)

-- so its rank of the start is not below the least one
abbrev pub AcceptedIsAbove : Type 0
AcceptedIsAbove = (b : Arena) → Lawful b → (rows : List Row) → Accepted b rows → (ranked b 0 ≡ true) × (rank b 0 ≤ rank_in rows 0)
