-- What holds of every board that is made of spots.
use Rattle.std.specs.Prelude.{ℕ, ◌≤◌, List, map}
use Rattle.std.specs.List.{All}
use Rattle.board.specs.declared.spot.Spot.{Spot}
use Rattle.board.specs.Spot.{seen, Fits}

-- the numbers of positions and choices of a board
abbrev pub Sized : ℕ → ℕ → Type 0
Sized n k = (1 ≤ n) × (n ≤ 1024) × (1 ≤ k) × (k ≤ 128)

-- those of a chart
abbrev pub Limits : ℕ → ℕ → Type 0
Limits n k = (1 ≤ n) × (n ≤ 256) × (1 ≤ k) × (k ≤ 8)

abbrev pub Sound : ℕ → ℕ → List Spot → Type 0
Sound n k spots = All (Fits n k) (map seen spots)
