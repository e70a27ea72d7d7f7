use Rattle.std.proofs.Common.{ℕ, ◌+◌, ◌<◌, List, Option, None, length, replicate, sym, ◌∙◌, ap, subst, arith}
use Rattle.board.proofs.Rounds.{Halfway, halfway_set, halfway_skip, halfway_all}
use Rattle.board.proofs.Settling.{done_first, is_done, not_done}
use Rattle.board.proofs.solve.Solver.begun.Goals as goal
use Rattle.board.proofs.solve.Solver.begun.Goals.{then-is_done, else-is_done}

pub loop-position-preserved : goal.loop-position-preserved
loop-position-preserved g c =
    let b = g.B.Board.arena c.args.board.now in
    let p = c.loop-position.position in
    let unknown : List (Option ℕ) = replicate 1024 None in
    let room : p < length unknown = omega (arith, (g.B.Board.lawful c.args.board.now).few_positions) in
    elim c.if-is_done.branch [
      | then-is_done w ↦ subst (Halfway (done_first b) unknown (p + 1)) (sym (ap (λ r. r.of) w.ranks-is ∙ w.set.ensures)) (halfway_set _ _ p _ _ c.loop-position.invariant room (is_done b p (sym c.is_done.ensures ∙ w.if-is_done.true)))
      | else-is_done w ↦ subst (Halfway (done_first b) unknown (p + 1)) (sym (ap (λ r. r.of) w.ranks-is)) (halfway_skip _ _ p _ c.loop-position.invariant (not_done b p 1024 (sym c.is_done.ensures ∙ w.if-is_done.false)))
    ]

pub returns-clause-found : goal.returns-clause-found
returns-clause-found g c =
    let b = c.args.board.now in
    halfway_all _ _ _ _ c.loop-position.invariant (λ x l. not_done (g.B.Board.arena b) x 1024 ((g.B.Board.lawful b).beyond_done x (omega arith)))
