use Rattle.std.proofs.Common.{◌≡◌}
use Rattle.board.specs.Rounds.{Found}
use Rattle.board.proofs.solve.Ranked.settled.Given as goal

abbrev pub invariant-loop-steps : goal.invariant-loop-steps
invariant-loop-steps g l = (l.solver.board.now ≡ l.board) × Found (g.B.Board.arena l.board) l.steps l.solver.ranks.of
