-- A slip of a run that waits can be waived.
use Rattle.std.proofs.Common.{◌≡◌, ℕ, eqb, List, Ok, Err, Result, sym, ap, ◌∙◌, arith}
use Rattle.std.proofs.lemmas.Bool.{cond-true, eq-eqb}
use Rattle.wire.specs.declared.refusal.Cause.TheVariants as cause
use Rattle.wire.specs.declared.refusal.Refusal.{Refusal}
use Rattle.wire.specs.Refusals.{refused}
use Rattle.board.specs.Arena.{Arena}
use Rattle.board.specs.declared.table.Row.{Row}
use Rattle.run.specs.declared.«record».Record.{Record}
use Rattle.run.specs.declared.«record».State.TheVariants.{Waiting, Abandoned}
use Rattle.run.specs.declared.slip.Slip.{Slip}
use Rattle.run.specs.declared.event.Event.TheVariants as event
use Rattle.run.specs.declared.event.Answer.{Answer}
use Rattle.run.specs.declared.event.Answer.TheVariants as answer
use Rattle.run.specs.Run.{in_state, delegating, as_waiting, waiving, reporting, kept, answered, given_by, done_so, handed, spent, step}

-- the run waits, and the slip names it
pub record Waits (r : Record) (s : Slip) : Type 0 where
  pub choice : ℕ
  pub waiting : r.state ≡ Waiting choice
  pub own : s.run ≡ r.number

never : {B : Type 0} → ◌≡◌ {A = ℕ} 0 1 → B
never e = absurd (omega arith)

pub given_waits : (b : Arena) (rows : List Row) (r w : Record) (c : ℕ) (s : Slip) → (handed (Ok (c, s)), w) ≡ step b rows r event.Delegate → Waits w s
given_waits b rows r w c s e = go (delegating b rows r.position r.state) e
  where
    go : (x : Result ℕ Refusal) → (handed (Ok (c, s)), w) ≡ answered (given_by r.number) (as_waiting r x) → Waits w s
    go (Ok d) e =
        let w-is : w ≡ in_state r (Waiting d) = ap (λ z. z.1) e in
        let a-is : answer.Given c s.run ≡ answer.Given d r.number = ap (λ z. z.0) e in
        let n-is : s.run ≡ r.number = cc in
        record { choice = d; waiting = ap (λ z. z.state) w-is; own = n-is ∙ sym (ap (λ z. z.number) w-is) }
    go (Err f) e = let z : ◌≡◌ {A = Answer} (answer.Given c s.run) (answer.Refused f) = ap (λ z. z.0) e in let y : ◌≡◌ {A = ℕ} 0 1 = cc in never y

abbrev Refusing : Type 0
Refusing = Result (Unit {0}) (Refusal × Slip)

-- a refusal keeps the record and hands the slip back
pub refused_keeps : (b : Arena) (rows : List Row) (r w : Record) (s k : Slip) (q : ℕ) (f : Refusal) → ◌≡◌ {A = Refusing × Record} (Err (f, k), w) (spent s (step b rows r (event.Report s.run q))) → Waits r s → Waits w k
refused_keeps b rows r w s k q f e h = go (reporting b r s.run q r.state) e
  where
    go : (x : Result Record Refusal) → ◌≡◌ {A = Refusing × Record} (Err (f, k), w) (spent s (answered done_so (kept r x))) → Waits w k
    go (Ok v) e = let z : ◌≡◌ {A = Refusing} (Err (f, k)) (Ok tt) = ap (λ z. z.0) e in let y : ◌≡◌ {A = ℕ} 0 1 = cc in never y
    go (Err g) e =
        let w-is : w ≡ r = ap (λ z. z.1) e in
        let z : ◌≡◌ {A = Refusing} (Err (f, k)) (Err (g, s)) = ap (λ z. z.0) e in
        let p : ◌≡◌ {A = Refusal × Slip} (f, k) (g, s) = cc in
        let k-is : k ≡ s = ap (λ z. z.1) p in
        record { choice = h.choice; waiting = ap (λ z. z.state) w-is ∙ h.waiting; own = ap (λ z. z.run) k-is ∙ h.own ∙ sym (ap (λ z. z.number) w-is) }

pub waits_waives : (b : Arena) (rows : List Row) (r w : Record) (s k : Slip) (f : Refusal) → ◌≡◌ {A = Refusing × Record} (Err (f, k), w) (spent s (step b rows r (event.Waive s.run))) → Waits r s → ⊥
waits_waives b rows r w s k f e h =
    let x-is : waiving r s.run r.state ≡ Ok (in_state r Abandoned) = ap (waiving r s.run) h.waiting ∙ cond-true (eqb s.run r.number) (Ok (in_state r Abandoned)) (Err (refused cause.SlipMismatch 0)) (eq-eqb _ _ h.own) in
    let z : ◌≡◌ {A = Refusing} (Err (f, k)) (Ok tt) = ap (λ z. z.0) (e ∙ ap (λ x. spent s (answered done_so (kept r x))) x-is) in
    let y : ◌≡◌ {A = ℕ} 0 1 = cc in
    never y
