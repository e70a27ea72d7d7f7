use Rattle.std.proofs.Common.{◌≡◌, false}
use Rattle.board.specs.Rounds.{raised}
use Rattle.board.proofs.Rounds.{Halfway}
use Rattle.board.proofs.solve.Solver.round.Given as goal

abbrev pub invariant-loop-position : goal.invariant-loop-position
invariant-loop-position g l =
    let b = l.initial.self.board.now in
    (l.self.board.now ≡ b) × Halfway (raised (g.B.Board.arena b) l.initial.self.ranks.of l.rank) l.initial.self.ranks.of l.position l.self.ranks.of × (l.changed ≡ false → l.self.ranks.of ≡ l.initial.self.ranks.of)
