use Rattle.std.proofs.Common.{vec_items}
use Rattle.run.proofs.Slips.{given_waits, refused_keeps, waits_waives}
use Rattle.run.proofs.run.turn.Goals as goal

pub drop-back-requires : goal.drop-back-requires
drop-back-requires g c =
    let b = g.B.Board.arena c.args.board.now in
    let rows = vec_items c.args.table.now.rows in
    absurd (waits_waives b rows _ _ _ _ _ (c.in-Err-waive.ensures b rows) (refused_keeps b rows _ _ _ _ _ _ (c.in-Err.ensures rows) (given_waits b rows _ _ _ _ c.in_ok-choice.ensures.steps)))
