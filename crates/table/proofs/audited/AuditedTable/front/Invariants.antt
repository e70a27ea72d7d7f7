use Rattle.std.proofs.Common.{◌-◌, ◌≤◌, length}
use Rattle.table.proofs.audited.AuditedTable.front.Given as goal

abbrev pub decreases-loop-end : goal.decreases-loop-end
decreases-loop-end l = length l.self.rows.items - l.end

abbrev pub invariant-loop-end : goal.invariant-loop-end
invariant-loop-end l = 1 ≤ l.end
