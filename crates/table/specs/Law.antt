-- The law of audit: what it accepts is exactly the bytes of accepted rows.
use Rattle.std.specs.Prelude.{◌≡◌, ℕ, ◌≤◌, true, List, Ok}
use Rattle.board.specs.declared.table.Row.{Row}
use Rattle.board.specs.Arena.{Arena, Lawful}
use Rattle.board.specs.Lists.{Member}
use Rattle.board.specs.Ranks.{ranked}
use Rattle.board.specs.Table.{Accepted, solution}
use Rattle.table.specs.Bytes.{table_bytes}
use Rattle.table.specs.Audit.{audit_of}

-- rows that can be written: each number in its range, and no choice where the rank is 0
pub record Plain (rows : List Row) : Type 0 where
  pub ranks : (r : Row) → Member r rows → r.rank ≤ 65535
  pub choices : (r : Row) → Member r rows → r.choice ≤ 255
  pub blank : (r : Row) → Member r rows → r.rank ≡ 0 → r.choice ≡ 0

pub record AuditLaw (b : Arena) (bs : List ℕ) : Type 0 where
  pub accepted : (rows : List Row) → audit_of b bs ≡ Ok rows → (bs ≡ table_bytes rows) × Plain rows × Accepted b rows
  pub accepts : (rows : List Row) → Plain rows → bs ≡ table_bytes rows → Accepted b rows → audit_of b bs ≡ Ok rows

-- what solve answers passes the audit once it is written
abbrev pub SolutionIsAudited : Type 0
SolutionIsAudited = (b : Arena) → Lawful b → ranked b 0 ≡ true → audit_of b (table_bytes (solution b)) ≡ Ok (solution b)
