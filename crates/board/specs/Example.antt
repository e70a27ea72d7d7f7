-- The paper roll as a chart file: cut (choice 0) from the start may tear it (1, done) or leave it hanging (2); pull (choice 1) tears it then.
use Rattle.std.specs.Prelude.{◌≡◌, ℕ, List, [], ◌∷◌}
use Rattle.wire.specs.Reading.{left}
use Rattle.board.specs.declared.table.Row.{Row}
use Rattle.board.specs.Arena.{Arena}
use Rattle.board.specs.Spots.{arena_of}
use Rattle.board.specs.Reading.{Sheet, sheet_of, zero_sheet}
use Rattle.board.specs.Table.{solution}

-- three positions, two choices, then position by position the done flag and the outcomes of each choice
abbrev pub roll_file : List ℕ
roll_file = 3 ∷ 2 ∷ 0 ∷ 2 ∷ 1 ∷ 2 ∷ 0 ∷ 1 ∷ 0 ∷ 0 ∷ 0 ∷ 0 ∷ 1 ∷ 1 ∷ []

abbrev pub shown_by : Sheet → Arena
shown_by x = arena_of x.positions x.choices x.spots

abbrev pub row_of : ℕ → ℕ → ℕ → Row
row_of p r c = record { position = p; rank = r; choice = c }

-- ranks 2, 0 and 1, and choices 0 and 1 where the roll is not yet torn
abbrev pub RollIsSolved : Type 0
RollIsSolved = solution (shown_by (left zero_sheet (sheet_of roll_file))) ≡ row_of 0 2 0 ∷ row_of 1 0 0 ∷ row_of 2 1 1 ∷ []
