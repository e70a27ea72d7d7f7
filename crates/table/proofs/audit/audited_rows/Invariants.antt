use Rattle.std.proofs.Common.{◌≡◌, vec_items}
use Rattle.table.proofs.Turns.{Reading}
use Rattle.table.proofs.audit.audited_rows.Given as goal

abbrev pub invariant-loop : goal.invariant-loop
invariant-loop g l =
    (l.reader.board.now ≡ l.board)
    × (l.reader.numbers.bytes.now ≡ l.bytes)
    × Reading (g.B.Board.arena l.board) l.bytes l.count l.counter l.reader.floor l.reader.numbers.at (vec_items l.rows) l.ranks.of
