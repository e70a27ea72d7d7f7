use Rattle.std.proofs.Common.{sym, ap, ◌∙◌}
use Rattle.run.specs.Run.{step}
use Rattle.run.proofs.replay.play.Goals as goal

pub returns-in-Abandon : goal.returns-in-Abandon
returns-in-Abandon g c =
    let b = g.B.Board.arena c.args.ground.now.board.now in
    let rows = c.args.ground.now.table.now.rows.items in
    ap (λ a. (a, c.abandon.new.self.rec)) c.accept-in-Abandon.ensures ∙ c.abandon.ensures b rows ∙ sym (ap (step b rows c.args.run.now.rec) c.in-Abandon.is)

pub returns-in-Look : goal.returns-in-Look
returns-in-Look g c =
    let b = g.B.Board.arena c.args.ground.now.board.now in
    let rows = c.args.ground.now.table.now.rows.items in
    c.look.ensures b rows ∙ sym (ap (step b rows c.args.run.now.rec) c.in-Look.is)
