-- A table as bytes: the number of rows, then each row.
use Rattle.std.specs.Prelude.{ℕ, cond, List, [], ◌∷◌, ◌++◌, length, ◌==◌}
use Rattle.wire.specs.Number.{groups}
use Rattle.board.specs.declared.table.Row.{Row}

-- the choice, which stands there where the rank is not 0
abbrev pub choice_bytes : Row → List ℕ
choice_bytes r = cond (r.rank == 0) [] (groups r.choice)

-- position, rank and choice
unfoldable pub row_bytes : Row → List ℕ
row_bytes r = groups r.position ++ (groups r.rank ++ choice_bytes r)

abbrev pub rows_bytes : List Row → List ℕ
rows_bytes [] = []
rows_bytes (r ∷ rs) = row_bytes r ++ rows_bytes rs

unfoldable pub table_bytes : List Row → List ℕ
table_bytes rows = groups (length rows) ++ rows_bytes rows
