use Rattle.std.proofs.Common.{vec_items, ap, ◌∙◌}
use Rattle.run.specs.declared.«record».Record.{Record}
use Rattle.run.specs.declared.event.Answer.{Answer}
use Rattle.run.specs.Run.{birth, seen}
use Rattle.run.proofs.Replays.{seen_is, going_answers, going_after}
use Rattle.run.proofs.Runs.{law_of_runs}
use Rattle.run.proofs.replay.replay.Goals as goal

pub returns : goal.returns
returns g c =
    let b = g.B.Board.arena c.args.board.now in
    let rows = vec_items c.args.table.now.rows in
    record {
      answers_as = going_answers b rows (birth b c.args.number) c.args.events.now _ _ _ c.loop-event.invariant c.loop-event-test.false;
      look_as = seen_is _ _ (ap (λ (x : Answer × Record). x.0) (c.look.ensures b rows)) ∙ ap seen (going_after b rows (birth b c.args.number) c.args.events.now _ _ _ c.loop-event.invariant c.loop-event-test.false);
      law = λ ok. law_of_runs b (g.B.Board.lawful c.args.board.now) rows ok c.args.number c.args.events.now;
    }
