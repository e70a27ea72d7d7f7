use Rattle.std.proofs.Common.{◌≡◌, ◌≤◌, ◌∙◌, Option, Some, sym, ap, unwrap_or, arith}
use Rattle.board.specs.declared.table.Row.{Row}
use Rattle.board.specs.Rounds.{wins_by}
use Rattle.board.proofs.Rounds.{found_most}
use Rattle.board.proofs.Rows.{choice_at, none_at, has_row}
use Rattle.board.proofs.solve.Ranked.row_at.Goals as goal
use Rattle.board.proofs.solve.Ranked.row_at.Goals.{then-rank-eq0, else-rank-eq0}

pub overflow_cast-result-2 : goal.overflow_cast-result-2
overflow_cast-result-2 g c =
    let b = g.B.Board.arena c.args.self.now.solver.board.now in
    let ranks = c.args.self.now.solver.ranks.of in
    let few = (g.B.Board.lawful c.args.self.now.solver.board.now).few_choices in
    let small : c.if-rank-eq0.choice ≤ 128 = elim c.if-rank-eq0.branch [
      | then-rank-eq0 w ↦ omega (arith, w.choice-is)
      | else-rank-eq0 w ↦ omega (arith, w.choice-is, w.unwrap_or-choice.ensures ∙ ap (λ o. unwrap_or o 0) w.lowest_choice.ensures, found_most (wins_by b ranks c.in_ok-rank.rank c.args.position) b.choices, few)
    ] in
    omega (arith, small)

pub returns : goal.returns
returns g c =
    let b = g.B.Board.arena c.args.self.now.solver.board.now in
    let ranks = c.args.self.now.solver.ranks.of in
    let all = c.args.self.now.settled in
    let p = c.args.position in
    let k : c.if-rank-eq0.choice ≡ choice_at b ranks all p c.in_ok-rank.rank = elim c.if-rank-eq0.branch [
      | then-rank-eq0 w ↦ w.choice-is ∙ sym (none_at b ranks all p) ∙ ap (choice_at b ranks all p) (sym w.if-rank-eq0.true)
      | else-rank-eq0 w ↦ w.choice-is ∙ w.unwrap_or-choice.ensures ∙ ap (λ o. unwrap_or o 0) w.lowest_choice.ensures
    ] in
    ap {B = Option Row} (λ n. Some (record { position = p; rank = c.in_ok-rank.rank; choice = n })) k ∙ has_row b ranks all p c.in_ok-rank.rank (sym c.get.ensures ∙ c.in_ok-rank.was)
