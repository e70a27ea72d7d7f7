-- Tables: rows of positions with their ranks and choices; which of them are accepted, and which solve answers.
use Rattle.std.specs.Prelude.{◌≡◌, ℕ, zero, suc, ◌<◌, Bool, true, false, cond, List, [], ◌∷◌, Some, None, Decides, Option, ◌==◌}
use Rattle.board.specs.Lists.{Member, some}
use Rattle.board.specs.declared.table.Row.{Row}
use Rattle.board.specs.Arena.{Arena}
use Rattle.board.specs.Ranks.{ranked}
use Rattle.board.specs.Ranks as ranks

-- each row's position is below those of the rows after it
abbrev pub Ascending : List Row → Type 0
Ascending [] = Unit {0}
Ascending (r ∷ rs) = ((s : Row) → Member s rs → r.position < s.position) × Ascending rs

-- what audit asks of the rows of a table
pub record Accepted (b : Arena) (rows : List Row) : Type 0 where
  pub ascending : Ascending rows
  pub on_board : (r : Row) → Member r rows → r.position < b.positions
  pub zero_is_done : (r : Row) → Member r rows → Decides (b.done r.position) (r.rank ≡ 0)
  pub playable : (r : Row) → Member r rows → 0 < r.rank → some (b.outcomes r.position r.choice) ≡ true
  pub start : (r : Row) × Member r rows × (r.position ≡ 0)
  pub falls : (r : Row) → Member r rows → 0 < r.rank → (q : ℕ) → Member q (b.outcomes r.position r.choice) → (s : Row) × Member s rows × (s.position ≡ q) × (s.rank < r.rank)

-- the row of a position
abbrev pub find : List Row → ℕ → Option Row
find [] p = None
find (r ∷ rs) p = cond (r.position == p) (Some r) (find rs p)

abbrev pub rank_of : Option Row → ℕ
rank_of None = 0
rank_of (Some r) = r.rank

abbrev pub choice_of_row : Option Row → ℕ
choice_of_row None = 0
choice_of_row (Some r) = r.choice

abbrev pub rank_in : List Row → ℕ → ℕ
rank_in rows p = rank_of (find rows p)

abbrev pub choice_in : List Row → ℕ → ℕ
choice_in rows p = choice_of_row (find rows p)

-- the row that solve answers for a ranked position
abbrev pub row : Arena → ℕ → Row
row b p = record { position = p; rank = ranks.rank b p; choice = cond (b.done p) 0 (ranks.choice b p) }

-- and what it has for any position
abbrev pub row_if : Arena → ℕ → Option Row
row_if b p = cond (ranked b p) (Some (row b p)) None

abbrev pub keep : Bool → Row → List Row → List Row
keep true r rs = r ∷ rs
keep false r rs = rs

-- the rows of the ranked ones among the n positions from p on
abbrev pub rows_from : Arena → ℕ → ℕ → List Row
rows_from b zero p = []
rows_from b (suc n) p = keep (ranked b p) (row b p) (rows_from b n (suc p))

abbrev pub solution : Arena → List Row
solution b = rows_from b b.positions 0
