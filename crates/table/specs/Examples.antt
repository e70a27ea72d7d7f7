-- Worked audits of the paper roll's board.
use Rattle.std.specs.Prelude.{◌≡◌, ℕ, cond, ◌&&◌, List, [], ◌∷◌, Ok, Err, ◌==◌}
use Rattle.wire.specs.declared.refusal.Cause.TheVariants as cause
use Rattle.wire.specs.Refusals.{refused}
use Rattle.board.specs.Arena.{Arena}
use Rattle.table.specs.Audit.{audit_of, row_of}

-- printing at position 0 leads to 1 or 2, and loading at 2 leads to 1
abbrev pub roll_outcomes : ℕ → ℕ → List ℕ
roll_outcomes p c = cond (p == 0 && c == 0) (1 ∷ 2 ∷ []) (cond (p == 2 && c == 1) (1 ∷ []) [])

abbrev pub roll_arena : Arena
roll_arena = record { positions = 3; choices = 2; done = λ p. (p == 1); outcomes = roll_outcomes }

pub record AuditExamples : Type 0 where
  -- ranks above the least are accepted
  pub accepted : audit_of roll_arena (0x03 ∷ 0x00 ∷ 0x05 ∷ 0x00 ∷ 0x01 ∷ 0x00 ∷ 0x02 ∷ 0x01 ∷ 0x01 ∷ []) ≡ Ok (row_of 0 5 0 ∷ row_of 1 0 0 ∷ row_of 2 1 1 ∷ [])
  -- position 2 has the same rank as position 0
  pub not_lower : audit_of roll_arena (0x03 ∷ 0x00 ∷ 0x01 ∷ 0x00 ∷ 0x01 ∷ 0x00 ∷ 0x02 ∷ 0x01 ∷ 0x01 ∷ []) ≡ Err (refused cause.RankNotFalling 1)
  -- position 2 has no row
  pub no_row : audit_of roll_arena (0x02 ∷ 0x00 ∷ 0x02 ∷ 0x00 ∷ 0x01 ∷ 0x00 ∷ []) ≡ Err (refused cause.RankNotFalling 1)
