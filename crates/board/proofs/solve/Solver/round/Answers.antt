use Rattle.std.proofs.Common.{◌≡◌, ◌+◌, ◌<◌, false, length, sym, ◌∙◌, ap, slice_set, subst, arith}
use Rattle.std.proofs.lemmas.Bool.{true≢false}
use Rattle.board.specs.Rounds.{raised}
use Rattle.board.proofs.Rounds.{Halfway, halfway_set, halfway_all, raised_same, not_raised}
use Rattle.board.proofs.solve.Solver.round.Goals as goal
use Rattle.board.proofs.solve.Solver.round.Goals.{then-raise, else-raise}

pub loop-position-preserved : goal.loop-position-preserved
loop-position-preserved g c =
    let b = g.B.Board.arena c.args.self.now.board.now in
    let p = c.loop-position.position in
    let old = c.args.self.now.ranks.of in
    let cur = c.loop-position.self.ranks.of in
    let h = c.loop-position.invariant.1 in
    let room : p < length old = omega (arith, (g.B.Board.lawful c.args.self.now.board.now).few_positions) in
    let after = c.raise.ensures.after ∙ ap (λ a. slice_set cur p (raised (g.B.Board.arena a) cur c.args.rank p)) c.loop-position.invariant.0 in
    let still : c.if-raise.changed ≡ false → c.raise.new.self.ranks.of ≡ old = elim c.if-raise.branch [
      | then-raise w ↦ λ e. absurd (true≢false (sym w.changed-is ∙ e))
      | else-raise w ↦ λ e. c.raise.ensures.still w.if-raise.false ∙ c.loop-position.invariant.2 (sym w.changed-is ∙ e)
    ] in (
      c.raise.ensures.board ∙ c.loop-position.invariant.0,
      subst (Halfway (raised b old c.args.rank) old (p + 1)) (sym after) (halfway_set _ _ p cur _ h room (raised_same b old cur c.args.rank p h)),
      still,
    )

pub returns-clause-each : goal.returns-clause-each
returns-clause-each g c =
    let b = c.args.self.now.board.now in
    halfway_all _ _ _ _ c.loop-position.invariant.1 (λ x l. not_raised (g.B.Board.arena b) (g.B.Board.lawful b) _ _ x (omega arith))
