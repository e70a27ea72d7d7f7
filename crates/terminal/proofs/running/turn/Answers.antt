use Rattle.std.proofs.Common.{vec_items}
use Rattle.board.specs.Charts.{chart_arena}
use Rattle.run.proofs.Slips.{given_waits, refused_keeps, waits_waives}
use Rattle.terminal.proofs.running.turn.Goals as goal

pub drop-back-requires : goal.drop-back-requires
drop-back-requires c =
    let b = chart_arena c.args.chart.now in
    let rows = vec_items c.args.table.now.rows in
    absurd (waits_waives b rows _ _ _ _ _ (c.in-Err-waive.ensures b rows) (refused_keeps b rows _ _ _ _ _ _ (c.in-Err-report.ensures rows) (given_waits b rows _ _ _ _ c.in-Ok.ensures.steps)))
