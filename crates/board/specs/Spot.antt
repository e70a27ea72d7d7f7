-- What stands at a position of a board.
use Rattle.std.specs.Prelude.{ℕ, ◌<◌, ◌≤◌, Bool, true, false, List, [], map, length, vec_items, slice_index_or, Vec}
use Rattle.std.specs.List.{All}
use Rattle.board.specs.declared.spot.Spot.{Spot}
use Rattle.board.specs.declared.spot.Spot.TheVariants as spot

-- it is done, or for each choice the outcomes
pub data Seen : Type 0 where
  Done : Seen
  Open : List (List ℕ) → Seen

-- as a board keeps it
abbrev pub lists : {Y Z : Type 0} → Vec (Vec ℕ Y) Z → List (List ℕ)
lists xs = map vec_items (vec_items xs)

abbrev pub seen : Spot → Seen
seen spot.Done = Done
seen (spot.Open xs) = Open (lists xs)

abbrev pub spots : {Z : Type 0} → Vec Spot Z → List Seen
spots xs = map seen (vec_items xs)

abbrev pub is_done : Seen → Bool
is_done Done = true
is_done (Open xs) = false

abbrev pub choices_in : Seen → List (List ℕ)
choices_in Done = []
choices_in (Open xs) = xs

-- the outcomes of a choice
abbrev pub outcomes_in : Seen → ℕ → List ℕ
outcomes_in x c = slice_index_or (choices_in x) c []

-- what stands past the end
abbrev pub past_spot : Seen
past_spot = Open []

-- outcomes are among n positions, and only for k choices
abbrev pub Fits : ℕ → ℕ → Seen → Type 0
Fits n k x = (length (choices_in x) ≤ k) × All (All (λ q. q < n)) (choices_in x)
