use Rattle.std.proofs.Common.{◌≡◌}
use Rattle.table.proofs.Putting.{PutOn}
use Rattle.table.proofs.write.write_table.Given as goal

abbrev pub invariant-loop-row : goal.invariant-loop-row
invariant-loop-row l = PutOn l.rows l.fn.output l.row-index l.writer × (l.writer.output.ghost_name ≡ l.initial.writer.output.ghost_name)
