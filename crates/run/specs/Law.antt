-- The law of runs.
use Rattle.std.specs.Prelude.{◌≡◌, ℕ, ◌+◌, ◌<◌, ◌≤◌, Bool, true, false, List, [], ◌∷◌, length, vec_items, ◌≢◌}
use Rattle.wire.specs.declared.refusal.Refusal.{Refusal}
use Rattle.wire.specs.Refusals.{number_of}
use Rattle.board.specs.Arena.{Arena, Lawful}
use Rattle.board.specs.Lists.{Member}
use Rattle.board.specs.Table.{Accepted, rank_in, choice_in}
use Rattle.board.specs.declared.table.Row.{Row}
use Rattle.run.specs.declared.«record».State.{State}
use Rattle.run.specs.declared.«record».State.TheVariants.{Idle, Waiting, Done, Abandoned}
use Rattle.run.specs.declared.event.Event.{Event}
use Rattle.run.specs.declared.event.Answer.{Answer}
use Rattle.run.specs.declared.event.Answer.TheVariants as answer
use Rattle.run.specs.declared.event.Replay.{Replay}
use Rattle.run.specs.Run.{seen, birth, answers, after, reports}

-- neither "no usable row" nor "too many reports"
abbrev pub Plain : Refusal → Type 0
Plain e = (number_of e.cause ≢ 45) × (number_of e.cause ≢ 48)

abbrev pub Fine : Answer → Type 0
Fine (answer.Given c n) = Unit {0}
Fine answer.Accepted = Unit {0}
Fine (answer.Seen l) = Unit {0}
Fine (answer.Rehearsed l n) = Unit {0}
Fine (answer.Refused e) = Plain e
Fine (answer.Stopped e n) = Plain e

abbrev pub is_done : State → Bool
is_done Idle = false
is_done (Waiting c) = false
is_done Done = true
is_done Abandoned = false

-- Follows b rows p w q: from p the reports w lead to q, each of them of the row's choice where it was made, and of an outcome of it
abbrev pub Follows : Arena → List Row → ℕ → List (ℕ × ℕ) → ℕ → Type 0
Follows b rows p [] q = p ≡ q
Follows b rows p (x ∷ w) q = (x.0 ≡ choice_in rows p) × Member x.1 (b.outcomes p x.0) × Follows b rows x.1 w q

-- the run n after the events es
pub record Ruled (b : Arena) (rows : List Row) (n : ℕ) (es : List Event) : Type 0 where
  -- no answer is 45 or 48, inside rehearse neither
  pub fine : (a : Answer) → Member a (answers b rows (birth b n) es) → Fine a
  -- accepted reports and the present rank are at most the start rank
  pub on_time : (after b rows (birth b n) es).count + rank_in rows (after b rows (birth b n) es).position ≤ rank_in rows 0
  -- the accepted reports lead from the start to the present position, and are counted
  pub follows : Follows b rows 0 (reports b rows (birth b n) es) (after b rows (birth b n) es).position
  pub counted : (after b rows (birth b n) es).count ≡ length (reports b rows (birth b n) es)
  pub few : (after b rows (birth b n) es).count < 1024
  -- it is done exactly where the board says so
  pub done_as_board : is_done (after b rows (birth b n) es).state ≡ b.done (after b rows (birth b n) es).position
  pub numbered : (after b rows (birth b n) es).number ≡ n

-- every list of events, on every board with every table that is accepted there
abbrev pub LawOfRuns : Type 0
LawOfRuns = (b : Arena) → Lawful b → (rows : List Row) → Accepted b rows → (n : ℕ) (es : List Event) → Ruled b rows n es

-- a replay of the events on a fresh run: the answers, the last look, and the law if the table is accepted on the board
pub record Replayed (b : Arena) (rows : List Row) (n : ℕ) (es : List Event) (y : Replay) : Type 0 where
  pub answers_as : vec_items y.answers ≡ answers b rows (birth b n) es
  pub look_as : y.look ≡ seen (after b rows (birth b n) es)
  pub law : Accepted b rows → Ruled b rows n es
