-- Ranks in a list, as rounds find them.
use Rattle.std.specs.Prelude.{◌≡◌, ℕ, Bool, false, List, Some, None, Option, nat_lt, slice_index_or}
use Rattle.board.specs.Lists.{any_below}
use Rattle.board.specs.Arena.{Arena}
use Rattle.board.specs.Game.{forced, next_rank, found_by, rank_if}
use Rattle.board.specs.Ranks.{moves}

-- a rank below m
abbrev pub under : ℕ → Option ℕ → Bool
under m None = false
under m (Some r) = nat_lt r m

-- the positions with a rank below m in the list
abbrev pub held : List (Option ℕ) → ℕ → ℕ → Bool
held ranks m p = under m (slice_index_or ranks p None)

-- the choice is playable at p, and has only outcomes with ranks below m
abbrev pub wins_by : Arena → List (Option ℕ) → ℕ → ℕ → ℕ → Bool
wins_by b ranks m p = forced (moves b) (held ranks m) p

-- some choice at p does so
abbrev pub winnable : Arena → List (Option ℕ) → ℕ → ℕ → Bool
winnable b ranks m p = any_below b.choices (wins_by b ranks m p)

-- the rank of p after round m over the ranks so far
abbrev pub raised : Arena → List (Option ℕ) → ℕ → ℕ → Option ℕ
raised b ranks m p = next_rank (slice_index_or ranks p None) (winnable b ranks m p) m

-- the list has what rounds up to m find
abbrev pub Found : Arena → ℕ → List (Option ℕ) → Type 0
Found b m ranks = (p : ℕ) → slice_index_or ranks p None ≡ found_by (moves b) m p

-- the list has every rank
abbrev pub Settled : Arena → List (Option ℕ) → Type 0
Settled b ranks = (p : ℕ) → slice_index_or ranks p None ≡ rank_if (moves b) b.positions p
