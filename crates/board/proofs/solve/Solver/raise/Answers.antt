use Rattle.std.proofs.Common.{◌∙◌, is_some, sym, ap, slice_set}
use Rattle.board.specs.Rounds.{wins_by}
use Rattle.board.proofs.Rounds.{stays, stands_found, stands_lost, is_new, found_any}
use Rattle.board.proofs.solve.Solver.raise.Goals as goal
use Rattle.board.proofs.solve.Solver.raise.Goals.{then-is_some-via-then-is_some, then-is_some-via-else-is_some+then-is_none}

pub returns-then-is_some-clause-after : goal.returns-then-is_some-clause-after
returns-then-is_some-clause-after g c =
    let b = g.B.Board.arena c.args.self.now.board.now in
    let f = wins_by b c.args.self.now.ranks.of c.args.rank c.args.position in
    stays b c.args.self.now.ranks.of c.args.rank c.args.position elim c.then-is_some.branch [
      | then-is_some-via-then-is_some w ↦ stands_found _ _ c.args.rank (ap is_some (sym c.at.ensures) ∙ sym (w.if-is_some.ensures))
      | then-is_some-via-else-is_some+then-is_none w ↦ stands_lost _ _ c.args.rank (found_any f b.choices ∙ ap is_some (sym w.lowest_choice.ensures) ∙ w.if-is_none.ensures)
    ]

pub returns-clause-after : goal.returns-clause-after
returns-clause-after g c =
    let b = g.B.Board.arena c.args.self.now.board.now in
    let ranks = c.args.self.now.ranks.of in
    let f = wins_by b ranks c.args.rank c.args.position in
    c.set.ensures ∙ ap (slice_set ranks c.args.position) (sym (is_new _ _ c.args.rank (ap is_some (sym c.at.ensures) ∙ sym (c.if-is_some.ensures)) (found_any f b.choices ∙ ap is_some (sym c.lowest_choice.ensures) ∙ c.if-is_none.ensures)))
