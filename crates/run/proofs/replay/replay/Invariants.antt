use Rattle.std.proofs.Common.{vec_items}
use Rattle.run.specs.Run.{birth}
use Rattle.run.proofs.Replays.{Going}
use Rattle.run.proofs.replay.replay.Given as goal

abbrev pub invariant-loop-event : goal.invariant-loop-event
invariant-loop-event g l =
    Going (g.B.Board.arena l.board) (vec_items l.table.rows) (birth (g.B.Board.arena l.board) l.number) l.events l.run.rec (vec_items l.answers) l.event-index
