use Rattle.std.proofs.Common.{None, replicate}
use Rattle.board.proofs.Rounds.{Halfway}
use Rattle.board.proofs.Settling.{done_first}
use Rattle.board.proofs.solve.Solver.begun.Given as goal

abbrev pub invariant-loop-position : goal.invariant-loop-position
invariant-loop-position g l = Halfway (done_first (g.B.Board.arena l.board)) (replicate 1024 None) l.position l.ranks.of
