use Rattle.std.proofs.Common.{◌≡◌, drop, vec_items}
use Rattle.run.specs.Run.{rehearsing}
use Rattle.run.proofs.run.Run.rehearse.Given as goal

abbrev pub invariant-loop-accepted : goal.invariant-loop-accepted
invariant-loop-accepted g l =
    rehearsing (g.B.Board.arena l.board) (vec_items l.table.rows) l.fn.self.rec 0 l.supposed
    ≡ rehearsing (g.B.Board.arena l.board) (vec_items l.table.rows) l.guard.rec.now l.accepted (drop l.accepted l.supposed)
