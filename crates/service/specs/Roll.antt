-- The paper roll: one service that prints until the paper is out, and then is loaded.
use Rattle.std.specs.Prelude.{◌≡◌, ℕ, ◌-◌, ◌^◌, ◌<◌, ◌≤◌, Bool, true, false, cond, ◌&&◌, ◌⊎◌, Ok, Err, Result, ◌==◌, ◌≢◌, refl}
use Rattle.std.proofs.Common.{arith}
use Rattle.std.proofs.lemmas.Bool.{eqb-true, eq-eqb, ne_eqb, and_parts, cond-true, cond-false, cond_both}
use Rattle.wire.specs.declared.refusal.Cause.TheVariants as cause
use Rattle.wire.specs.declared.refusal.Refusal.{Refusal}
use Rattle.wire.specs.Refusals.{refused}
use Rattle.service.specs.Tables.{Tables, Lawful}

-- state 0 has paper: printing (action 0) leaves some or none; state 1 is out: loading (action 1) fills it
abbrev pub next_set : ℕ → ℕ → ℕ
next_set q a = cond (q == 0 && a == 0) 3 (cond (q == 1 && a == 1) 1 0)

abbrev pub roll_entry : ℕ → ℕ → ℕ → ℕ
roll_entry s q a = cond (s == 0) (next_set q a) 0

abbrev pub roll_tables : Tables
roll_tables = record { services = 1; actions = 2; states = λ s. cond (s == 0) 2 0; entry = roll_entry }

-- the state with so many slips left
abbrev pub state_of : ℕ → ℕ
state_of left = cond (left == 0) 1 0

abbrev pub roll_present : ℕ → ℕ → ℕ
roll_present left s = cond (s == 0) (state_of left) 0

-- what an action answers, and how many slips are left after it
abbrev pub stuck : ℕ → Result ℕ Refusal × ℕ
stuck left = (Err (refused cause.CannotPerform 0), left)

abbrev pub printed : ℕ → Result ℕ Refusal × ℕ
printed left = cond (left == 0) (stuck left) (Ok (state_of (left - 1)), left - 1)

abbrev pub loaded : ℕ → ℕ → Result ℕ Refusal × ℕ
loaded length left = cond (left == 0) (Ok 0, length) (stuck left)

abbrev pub rolled : ℕ → ℕ → ℕ → ℕ → Result ℕ Refusal × ℕ
rolled length left s a =
    cond (s == 0) (cond (a == 0) (printed left) (cond (a == 1) (loaded length left) (stuck left))) (stuck left)

-- a new roll is full, and holds at least one slip and at most a thousand
pub record NewRoll (asked length left : ℕ) : Type 0 where
  pub some : 1 ≤ asked
  pub few : asked ≤ 1000
  pub whole : length ≡ asked
  pub full : left ≡ asked

-- no roll is made of another length
pub record NoRoll (asked : ℕ) (e : Refusal) : Type 0 where
  pub why : e ≡ refused cause.RollLength 0
  pub outside : (asked ≡ 0) ⊎ (1000 < asked)

both : (P : Bool → Type 0) → P true → P false → (b : Bool) → P b
both P x y true = x
both P x y false = y

next_small : (q a : ℕ) → next_set q a < 4
next_small q a =
    cond_both (q == 0 && a == 0) 3 (cond (q == 1 && a == 1) 1 0) (λ x. x < 4) (λ _. omega arith)
    (λ _. cond_both (q == 1 && a == 1) 1 0 (λ x. x < 4) (λ _. omega arith) (λ _. omega arith))

-- it is empty unless the state and the action are 0 and 0 or 1 and 1
next_none : (q a : ℕ) → (q ≡ 0 → a ≢ 0) → (q ≡ 1 → a ≢ 1) → next_set q a ≡ 0
next_none q a f g =
    cond_both (q == 0 && a == 0) 3 (cond (q == 1 && a == 1) 1 0) (λ x. x ≡ 0)
    (λ t. let w = and_parts (q == 0) (a == 0) t in absurd (f (eqb-true q 0 w.0) (eqb-true a 0 w.1)))
    (λ _. cond_both (q == 1 && a == 1) 1 0 (λ x. x ≡ 0) (λ t. let w = and_parts (q == 1) (a == 1) t in absurd (g (eqb-true q 1 w.0) (eqb-true a 1 w.1))) (λ _. refl))

inside : (s q a : ℕ) → roll_entry s q a < 2 ^ roll_tables.states s
inside s q a = both (λ b. cond b (next_set q a) 0 < 2 ^ cond b 2 0) (next_small q a) (omega arith) (s == 0)

past_state : (s q a : ℕ) → roll_tables.states s ≤ q → roll_entry s q a ≡ 0
past_state s q a =
    both (λ b. cond b 2 0 ≤ q → cond b (next_set q a) 0 ≡ 0) (λ h. next_none q a (λ x _. omega arith) (λ x _. omega arith)) (λ _. refl) (s == 0)

past_action : (s q a : ℕ) → 2 ≤ a → roll_entry s q a ≡ 0
past_action s q a h =
    cond_both (s == 0) (next_set q a) 0 (λ x. x ≡ 0) (λ _. next_none q a (λ _ x. omega arith) (λ _ x. omega arith)) (λ _. refl)

-- past the one service there is nothing
past : (s n : ℕ) → 1 ≤ s → cond (s == 0) n 0 ≡ 0
past s n h = cond-false (s == 0) n 0 (ne_eqb s 0 (λ x. omega arith))

first : (s n : ℕ) → s < 1 → cond (s == 0) n 0 ≡ n
first s n h = cond-true (s == 0) n 0 (eq-eqb s 0 (omega arith))

state_small : (left : ℕ) → state_of left < 2
state_small left = cond_both (left == 0) 1 0 (λ x. x < 2) (λ _. omega arith) (λ _. omega arith)

pub roll_lawful : (left : ℕ) → Lawful roll_tables (roll_present left)
roll_lawful left = record {
  some_service = omega arith;
  few_services = omega arith;
  some_action = omega arith;
  few_actions = omega arith;
  some_state = λ s h. omega (arith, first s 2 h);
  few_states = λ s h. omega (arith, first s 2 h);
  no_states = λ s h. past s 2 h;
  inside = inside;
  past_service = λ s q a h. past s (next_set q a) h;
  past_state = past_state;
  past_action = past_action;
  present_inside = λ s h. omega (arith, first s 2 h, first s (state_of left) h, state_small left);
  present_past = λ s h. past s (state_of left) h;
}
