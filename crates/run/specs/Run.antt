-- Runs: what each event answers, and how the record stands after it.
use Rattle.std.specs.Prelude.{ℕ, ◌+◌, Bool, true, false, cond, not, ◌||◌, List, [], ◌∷◌, ◌++◌, Some, None, Ok, Err, Option, Result, ◌==◌, nat_lt, codes}
use Rattle.wire.specs.declared.refusal.Cause.TheVariants as cause
use Rattle.wire.specs.declared.refusal.Refusal.{Refusal}
use Rattle.wire.specs.Refusals.{refused}
use Rattle.board.specs.Arena.{Arena}
use Rattle.board.specs.Lists.{some, has}
use Rattle.board.specs.Table.{find}
use Rattle.board.specs.declared.table.Row.{Row}
use Rattle.run.specs.declared.«record».Record.{Record}
use Rattle.run.specs.declared.«record».State.{State}
use Rattle.run.specs.declared.«record».State.TheVariants.{Idle, Waiting, Done, Abandoned}
use Rattle.run.specs.declared.look.Look.{Look}
use Rattle.run.specs.declared.look.Phase.{Phase}
use Rattle.run.specs.declared.look.Phase.TheVariants as phase
use Rattle.run.specs.declared.slip.Slip.{Slip}
use Rattle.run.specs.declared.event.Event.{Event}
use Rattle.run.specs.declared.event.Event.TheVariants as event
use Rattle.run.specs.declared.event.Answer.{Answer}
use Rattle.run.specs.declared.event.Answer.TheVariants as answer

-- what is seen of a run: not the choice that it waits on
abbrev pub phase_of : State → Phase
phase_of Idle = phase.Idle
phase_of (Waiting c) = phase.Waiting
phase_of Done = phase.Done
phase_of Abandoned = phase.Abandoned

-- how a phase is written
abbrev pub phase_word : Phase → List ℕ
phase_word phase.Idle = codes "idle"
phase_word phase.Waiting = codes "waiting"
phase_word phase.Done = codes "done"
phase_word phase.Abandoned = codes "abandoned"

abbrev pub seen : Record → Look
seen r = record { number = r.number; position = r.position; count = r.count; phase = phase_of r.state }

abbrev pub settled : Bool → State
settled true = Done
settled false = Idle

abbrev pub in_state : Record → State → Record
in_state r s = record { number = r.number; position = r.position; count = r.count; state = s }

abbrev pub birth : Arena → ℕ → Record
birth b n = record { number = n; position = 0; count = 0; state = settled (b.done 0) }

-- the choice of a row that can be used at position p
abbrev pub by_row : Arena → ℕ → Option Row → Result ℕ Refusal
by_row b p None = Err (refused cause.NoUsableRow 0)
by_row b p (Some w) = cond (w.rank == 0 || not (some (b.outcomes p w.choice))) (Err (refused cause.NoUsableRow 0)) (Ok w.choice)

abbrev pub delegating : Arena → List Row → ℕ → State → Result ℕ Refusal
delegating b rows p Idle = by_row b p (find rows p)
delegating b rows p (Waiting c) = Err (refused cause.RunWaiting 0)
delegating b rows p Done = Err (refused cause.RunEnded 0)
delegating b rows p Abandoned = Err (refused cause.RunEnded 0)

-- an accepted report of position q
abbrev pub reached : Arena → Record → ℕ → Record
reached b r q = record { number = r.number; position = q; count = r.count + 1; state = settled (b.done q) }

-- a report of position q by the run's slip, where choice c was delegated
abbrev pub arriving : Arena → Record → ℕ → ℕ → Result Record Refusal
arriving b r q c =
    cond (has q (b.outcomes r.position c)) (cond (nat_lt r.count 1023) (Ok (reached b r q)) (Err (refused cause.TooManyReports 0))) (Err (refused cause.NotAnOutcome 0))

-- a report of position q by a slip with the number s
abbrev pub reporting : Arena → Record → ℕ → ℕ → State → Result Record Refusal
reporting b r s q Idle = Err (refused cause.SlipMismatch 0)
reporting b r s q (Waiting c) = cond (s == r.number) (arriving b r q c) (Err (refused cause.SlipMismatch 0))
reporting b r s q Done = Err (refused cause.SlipMismatch 0)
reporting b r s q Abandoned = Err (refused cause.SlipMismatch 0)

abbrev pub waiving : Record → ℕ → State → Result Record Refusal
waiving r s Idle = Err (refused cause.SlipMismatch 0)
waiving r s (Waiting c) = cond (s == r.number) (Ok (in_state r Abandoned)) (Err (refused cause.SlipMismatch 0))
waiving r s Done = Err (refused cause.SlipMismatch 0)
waiving r s Abandoned = Err (refused cause.SlipMismatch 0)

abbrev pub abandoning : Record → State → Result Record Refusal
abandoning r Idle = Ok (in_state r Abandoned)
abandoning r (Waiting c) = Err (refused cause.RunWaiting 0)
abandoning r Done = Err (refused cause.RunEnded 0)
abandoning r Abandoned = Err (refused cause.RunEnded 0)

-- an answer with the record after it; a refusal leaves the record as it was
abbrev pub as_waiting : Record → Result ℕ Refusal → Result ℕ Refusal × Record
as_waiting r (Ok c) = (Ok c, in_state r (Waiting c))
as_waiting r (Err e) = (Err e, r)

abbrev pub delegated : Arena → List Row → Record → Result ℕ Refusal × Record
delegated b rows r = as_waiting r (delegating b rows r.position r.state)

abbrev pub kept : Record → Result Record Refusal → Result (Unit {0}) Refusal × Record
kept r (Ok w) = (Ok tt, w)
kept r (Err e) = (Err e, r)

-- a supposed position: delegate unless waiting, then report it as if with the run's slip
abbrev pub waits : State → Bool
waits Idle = false
waits (Waiting c) = true
waits Done = false
waits Abandoned = false

abbrev pub ready : Record → Result ℕ Refusal → Result Record Refusal
ready r (Ok c) = Ok (in_state r (Waiting c))
ready r (Err e) = Err e

abbrev pub readied : Arena → List Row → Record → Result Record Refusal
readied b rows r = cond (waits r.state) (Ok r) (ready r (delegating b rows r.position r.state))

abbrev pub report_own : Arena → ℕ → Result Record Refusal → Result Record Refusal
report_own b q (Ok w) = reporting b w w.number q w.state
report_own b q (Err e) = Err e

abbrev pub supposing : Arena → List Row → Record → ℕ → Result Record Refusal
supposing b rows r q = report_own b q (readied b rows r)

abbrev pub go_on : Result Record Refusal → ℕ → (Record → Answer) → Answer
go_on (Ok w) n f = f w
go_on (Err e) n f = answer.Stopped e n

-- n: the entries accepted so far
abbrev pub rehearsing : Arena → List Row → Record → ℕ → List ℕ → Answer
rehearsing b rows r n [] = answer.Rehearsed (seen r) n
rehearsing b rows r n (q ∷ qs) = go_on (supposing b rows r q) n (λ w. rehearsing b rows w (n + 1) qs)

abbrev pub told : {A : Type 0} → (A → Answer) → Result A Refusal → Answer
told f (Ok x) = f x
told f (Err e) = answer.Refused e

abbrev pub answered : {A : Type 0} → (A → Answer) → Result A Refusal × Record → Answer × Record
answered f x = (told f x.0, x.1)

abbrev pub given_by : ℕ → ℕ → Answer
given_by n c = answer.Given c n

abbrev pub done_so : Unit {0} → Answer
done_so x = answer.Accepted

-- one event: its answer, and the record after it
abbrev pub step : Arena → List Row → Record → Event → Answer × Record
step b rows r event.Delegate = answered (given_by r.number) (delegated b rows r)
step b rows r (event.Report s q) = answered done_so (kept r (reporting b r s q r.state))
step b rows r (event.Waive s) = answered done_so (kept r (waiving r s r.state))
step b rows r event.Abandon = answered done_so (kept r (abandoning r r.state))
step b rows r event.Look = (answer.Seen (seen r), r)
step b rows r (event.Rehearse qs) = (rehearsing b rows r 0 qs.now, r)

-- the answers of the calls
abbrev pub handed : Result (ℕ × Slip) Refusal → Answer
handed (Ok x) = answer.Given x.0 x.1.run
handed (Err e) = answer.Refused e

abbrev pub rehearsed : Result (Look × ℕ) (Refusal × ℕ) → Answer
rehearsed (Ok x) = answer.Rehearsed x.0 x.1
rehearsed (Err x) = answer.Stopped x.0 x.1

-- a refusal hands the slip back; any other answer spends it
abbrev pub spent_by : Slip → Answer → Result (Unit {0}) (Refusal × Slip)
spent_by s (answer.Given c n) = Ok tt
spent_by s answer.Accepted = Ok tt
spent_by s (answer.Seen l) = Ok tt
spent_by s (answer.Rehearsed l n) = Ok tt
spent_by s (answer.Refused e) = Err (e, s)
spent_by s (answer.Stopped e n) = Ok tt

abbrev pub spent : Slip → Answer × Record → Result (Unit {0}) (Refusal × Slip) × Record
spent s x = (spent_by s x.0, x.1)

-- a whole life from a record: the answers in order, and how the run stands in the end
abbrev pub answers : Arena → List Row → Record → List Event → List Answer
answers b rows r [] = []
answers b rows r (e ∷ es) = (step b rows r e).0 ∷ answers b rows (step b rows r e).1 es

abbrev pub after : Arena → List Row → Record → List Event → Record
after b rows r [] = r
after b rows r (e ∷ es) = after b rows (step b rows r e).1 es

-- The accepted reports of a life, in order: the choice that was delegated, and the position reached.
abbrev pub chosen : State → ℕ
chosen Idle = 0
chosen (Waiting c) = c
chosen Done = 0
chosen Abandoned = 0

abbrev pub entered : Result Record Refusal → ℕ → ℕ → List (ℕ × ℕ)
entered (Ok w) c q = (c, q) ∷ []
entered (Err e) c q = []

abbrev pub reported : Arena → Record → Event → List (ℕ × ℕ)
reported b r event.Delegate = []
reported b r (event.Report s q) = entered (reporting b r s q r.state) (chosen r.state) q
reported b r (event.Waive s) = []
reported b r event.Abandon = []
reported b r event.Look = []
reported b r (event.Rehearse qs) = []

abbrev pub reports : Arena → List Row → Record → List Event → List (ℕ × ℕ)
reports b rows r [] = []
reports b rows r (e ∷ es) = reported b r e ++ reports b rows (step b rows r e).1 es
