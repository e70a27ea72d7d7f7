-- One more event of a replay.
use Rattle.std.proofs.Common.{◌≡◌, ℕ, ◌≤◌, List, ◌++◌, length, drop, sym, ap, ◌∙◌, append-nil}
use Rattle.std.proofs.lemmas.List.{at_drop_all}
use Rattle.board.specs.Arena.{Arena}
use Rattle.board.specs.declared.table.Row.{Row}
use Rattle.run.specs.declared.«record».Record.{Record}
use Rattle.run.specs.declared.look.Look.{Look}
use Rattle.run.specs.declared.event.Event.{Event}
use Rattle.run.specs.declared.event.Answer.{Answer}
use Rattle.run.specs.declared.event.Answer.TheVariants as answer
use Rattle.run.specs.Run.{answers, after}

pub seen_is : (l m : Look) → answer.Seen l ≡ answer.Seen m → l ≡ m
seen_is l m e = cc

module _ (b : Arena) (rows : List Row) (r0 : Record) (es : List Event) where
  -- the answers so far, and those that are to come; and the run in the end
  pub record Going (r : Record) (so : List Answer) (i : ℕ) : Type 0 where
    pub answers_so : so ++ answers b rows r (drop i es) ≡ answers b rows r0 es
    pub after_so : after b rows r (drop i es) ≡ after b rows r0 es

  pub going_answers : (r : Record) (so : List Answer) (i : ℕ) → Going r so i → length es ≤ i → so ≡ answers b rows r0 es
  going_answers r so i g l = sym (append-nil so) ∙ sym (ap (λ x. so ++ x) (at_drop_all (answers b rows r) es i l)) ∙ g.answers_so

  pub going_after : (r : Record) (so : List Answer) (i : ℕ) → Going r so i → length es ≤ i → r ≡ after b rows r0 es
  going_after r so i g l = sym (at_drop_all (after b rows r) es i l) ∙ g.after_so
