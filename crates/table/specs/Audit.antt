-- What audit answers: the first fault in the order of the bytes, or the rows.
use Rattle.std.specs.Prelude.{◌≡◌, ℕ, zero, suc, ◌+◌, ◌<◌, Bool, cond, ◌&&◌, ◌||◌, List, [], ◌∷◌, map, length, is_some, None, Ok, Err, Option, Result, ◌==◌, nat_eq, nat_le, nat_lt, slice_index_or}
use Rattle.wire.specs.declared.refusal.Cause.TheVariants as cause
use Rattle.wire.specs.declared.refusal.Refusal.{Refusal}
use Rattle.wire.specs.Refusals.{refused}
use Rattle.wire.specs.Number.{number_at}
use Rattle.wire.specs.Reading.{and_then}
use Rattle.board.specs.declared.table.Row.{Row}
use Rattle.board.specs.Arena.{Arena}
use Rattle.board.specs.Lists.{some, all, any, same}
use Rattle.board.specs.Rounds.{held}
use Rattle.table.specs.declared.audit.Placed.{Placed}
use Rattle.table.specs.declared.audit.RowReader.{RowReader}

-- what a reader answers, and where it then stands, by what stands in the bytes: a value and where that ends, or a refusal
abbrev pub Reads : {X : Type 0} → Result X Refusal → ℕ → Result (X × ℕ) Refusal → Type 0
Reads (Ok x) to there = there ≡ Ok (x, to)
Reads (Err e) to there = there ≡ Err e

-- a reader reads the same bytes of the same board as another
abbrev pub Same : {B : Type 0} → RowReader B → RowReader B → Type 0
Same r s = (s.board.now ≡ r.board.now) × (s.numbers.bytes.now ≡ r.numbers.bytes.now)

-- go on where the test passes
abbrev pub asked : {X : Type 0} → Bool → Refusal → Result X Refusal → Result X Refusal
asked t e next = cond t next (Err e)

-- the number of rows: not above the number of positions
abbrev pub count_at : Arena → List ℕ → Result (ℕ × ℕ) Refusal
count_at b bs = and_then (number_at bs 0) (λ n. asked (nat_le n.0 b.positions) (refused cause.OutsideField 0) (Ok n))

-- the position of a row: on the board, and not below the floor, which is one above the last row's
abbrev pub position_at : Arena → List ℕ → ℕ → ℕ → Result (ℕ × ℕ) Refusal
position_at b bs floor at =
    and_then (number_at bs at) (λ p. asked (nat_lt p.0 b.positions) (refused cause.OutsideField at) (asked (nat_le floor p.0) (refused cause.RowsNotAscending at) (Ok p)))

-- the rank of a row: 0 exactly where the position is done
abbrev pub rank_at : Arena → List ℕ → ℕ → ℕ → Result (ℕ × ℕ) Refusal
rank_at b bs position at = and_then (number_at bs at) (λ t. asked (same (b.done position) (t.0 == 0)) (refused cause.RankAgainstDone at) (Ok t))

-- the choice of a row: playable
abbrev pub choice_at : Arena → List ℕ → ℕ → ℕ → Result (ℕ × ℕ) Refusal
choice_at b bs position at = and_then (number_at bs at) (λ c. asked (some (b.outcomes position c.0)) (refused cause.ChoiceUnplayable at) (Ok c))

abbrev pub row_of : ℕ → ℕ → ℕ → Row
row_of p t c = record { position = p; rank = t; choice = c }

-- a row, and where it ends
unfoldable pub row_at : Arena → List ℕ → ℕ → ℕ → Result (Row × ℕ) Refusal
row_at b bs floor at =
    and_then (position_at b bs floor at) (λ p.
    and_then (rank_at b bs p.0 p.1) (λ t.
    cond (t.0 == 0) (Ok (row_of p.0 t.0 0, t.1)) (and_then (choice_at b bs p.0 t.1) (λ c.
    Ok (row_of p.0 t.0 c.0, c.1)))))

-- a row with the place where it begins
abbrev pub placed : ℕ → Row → Placed
placed at r = record { place = at; row = r }

abbrev pub rows_of : List Placed → List Row
rows_of xs = map (λ (x : Placed). x.row) xs

-- n rows, and where they end
abbrev pub rows_at : Arena → List ℕ → ℕ → ℕ → ℕ → Result (ℕ × List Placed) Refusal
rows_at b bs zero floor at = Ok (at, [])
rows_at b bs (suc n) floor at =
    and_then (row_at b bs floor at) (λ x.
    and_then (rows_at b bs n (x.0.position + 1) x.1) (λ y.
    Ok (y.0, placed at x.0 ∷ y.1)))

-- some row has the position
abbrev pub has_row : List Row → ℕ → Bool
has_row rows q = any (λ (r : Row). nat_eq r.position q) rows

-- some row has the position, and a rank below t
abbrev pub lower_row : List Row → ℕ → ℕ → Bool
lower_row rows t q = any (λ (r : Row). (r.position == q) && nat_lt r.rank t) rows

-- every outcome of the row's choice passes a test that is told the row's rank
abbrev pub leads : Arena → (ℕ → ℕ → Bool) → Row → Bool
leads b lower r = r.rank == 0 || all (lower r.rank) (b.outcomes r.position r.choice)

-- the rows, if each passes the test
abbrev pub fallen : (Row → Bool) → List Placed → Result (List Row) Refusal
fallen f [] = Ok []
fallen f (x ∷ xs) = asked (f x.row) (refused cause.RankNotFalling x.place) (and_then (fallen f xs) (λ rows. Ok (x.row ∷ rows)))

-- what is asked once all rows are read
abbrev pub wholly : Arena → List ℕ → ℕ × List Placed → Result (List Row) Refusal
wholly b bs x =
    asked (nat_le (length bs) x.0) (refused cause.BytesLeftOver x.0)
    (asked (has_row (rows_of x.1) 0) (refused cause.NoStartRow (length bs))
    (fallen (leads b (lower_row (rows_of x.1))) x.1))

unfoldable pub audit_of : Arena → List ℕ → Result (List Row) Refusal
audit_of b bs = and_then (count_at b bs) (λ n. and_then (rows_at b bs n.0 0 n.1) (wholly b bs))

-- the list holds the rank of each position that has a row
pub record Marked (ranks : List (Option ℕ)) (rows : List Row) : Type 0 where
  pub lower : (t q : ℕ) → held ranks t q ≡ lower_row rows t q
  pub listed : (q : ℕ) → is_some (slice_index_or ranks q None) ≡ has_row rows q

-- each row's position is below those of the rows after it, by their places
abbrev pub Rising : List Row → Type 0
Rising rows = (i j : ℕ) (d : Row) → i < j → j < length rows → (slice_index_or rows i d).position < (slice_index_or rows j d).position
