use Rattle.std.proofs.Common.{◌≡◌, ◌+◌, ◌≤◌, ℕ, None, get_or, sym, ◌∙◌, ap, subst, arith}
use Rattle.board.specs.Rounds.{raised, Settled}
use Rattle.board.proofs.Settling.{found_next, found_all, found_still}
use Rattle.board.proofs.solve.Ranked.settled.Goals as goal
use Rattle.board.proofs.solve.Ranked.settled.Goals.{else-loop-steps-test, then-loop-steps-test+then-not-round}

pub loop-steps-preserved : goal.loop-steps-preserved
loop-steps-preserved g c =
    let b = g.B.Board.arena c.args.board.now in
    let ranks = c.loop-steps.solver.ranks.of in
    let m = c.loop-steps.steps in
    let each : (p : ℕ) → get_or c.round.new.self.ranks.of p None ≡ raised b ranks (m + 1) p = λ p. c.round.ensures.each p ∙ ap (λ a. raised (g.B.Board.arena a) ranks (m + 1) p) c.loop-steps.invariant.0 in
    (c.round.ensures.board ∙ c.loop-steps.invariant.0, found_next b m ranks c.round.new.self.ranks.of c.loop-steps.invariant.1 each)

pub invariant_of-result : goal.invariant_of-result
invariant_of-result g c =
    let b = g.B.Board.arena c.args.board.now in
    let ranks = c.loop-steps.solver.ranks.of in
    let m = c.loop-steps.steps in
    let l : m ≤ b.positions = omega arith in
    let left : (c.loop-steps-test.solver.board.now ≡ c.args.board.now) × Settled b c.loop-steps-test.solver.ranks.of = elim c.loop-steps-test.branch [
      | else-loop-steps-test w ↦
          let end : m ≡ b.positions = omega arith in
          (ap (λ s. s.board.now) w.solver-is ∙ c.loop-steps.invariant.0, subst (Settled b) (sym (ap (λ s. s.ranks.of) w.solver-is)) (found_all b m ranks c.loop-steps.invariant.1 end))
      | then-loop-steps-test+then-not-round w ↦
          let each : (p : ℕ) → get_or w.round.new.self.ranks.of p None ≡ raised b ranks (m + 1) p = λ p. w.round.ensures.each p ∙ ap (λ a. raised (g.B.Board.arena a) ranks (m + 1) p) c.loop-steps.invariant.0 in (
            ap (λ s. s.board.now) w.solver-is ∙ w.round.ensures.board ∙ c.loop-steps.invariant.0,
            subst (Settled b) (sym (ap (λ s. s.ranks.of) w.solver-is)) (found_still b m ranks w.round.new.self.ranks.of c.loop-steps.invariant.1 each l (w.round.ensures.still w.if-not-round.true)),
          )
    ] in
    record { settled = subst (λ a. Settled (g.B.Board.arena a) c.loop-steps-test.solver.ranks.of) (sym left.0) left.1 }
