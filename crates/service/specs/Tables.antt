-- What a community can do: the entries of its services, and the states that the services are in.
use Rattle.std.specs.Prelude.{◌≡◌, ℕ, ◌/◌, ◌%◌, ◌^◌, ◌<◌, ◌≤◌, Bool, true, cond, Ok, Err, Result, ◌==◌}
use Rattle.wire.specs.declared.refusal.Cause.TheVariants as cause
use Rattle.wire.specs.declared.refusal.Refusal.{Refusal}
use Rattle.wire.specs.Refusals.{refused}

pub record Tables : Type 0 where
  pub services : ℕ
  pub actions : ℕ
  -- the number of states of a service
  pub states : ℕ → ℕ
  -- the set of next states of a service, from a state by an action
  pub entry : ℕ → ℕ → ℕ → ℕ

-- state q is in the set
abbrev pub has_state : ℕ → ℕ → Bool
has_state set q = (set / 2 ^ q % 2) == 1

-- the present states once service s is in state q
abbrev pub moved : (ℕ → ℕ) → ℕ → ℕ → ℕ → ℕ
moved present s q t = cond (t == s) q (present t)

-- everything lies within its limits, and out of range there is nothing
pub record Lawful (t : Tables) (present : ℕ → ℕ) : Type 0 where
  pub some_service : 1 ≤ t.services
  pub few_services : t.services ≤ 8
  pub some_action : 1 ≤ t.actions
  pub few_actions : t.actions ≤ 16
  pub some_state : (s : ℕ) → s < t.services → 1 ≤ t.states s
  pub few_states : (s : ℕ) → s < t.services → t.states s ≤ 16
  pub no_states : (s : ℕ) → t.services ≤ s → t.states s ≡ 0
  pub inside : (s q a : ℕ) → t.entry s q a < 2 ^ t.states s
  pub past_service : (s q a : ℕ) → t.services ≤ s → t.entry s q a ≡ 0
  pub past_state : (s q a : ℕ) → t.states s ≤ q → t.entry s q a ≡ 0
  pub past_action : (s q a : ℕ) → t.actions ≤ a → t.entry s q a ≡ 0
  pub present_inside : (s : ℕ) → s < t.services → present s < t.states s
  pub present_past : (s : ℕ) → t.services ≤ s → present s ≡ 0

-- service s does action a: it goes to some state of its entry, or it is refused, the entry is empty and nothing moves
abbrev pub Performs : Tables → (ℕ → ℕ) → ℕ → ℕ → Result ℕ Refusal → (ℕ → ℕ) → Type 0
Performs t present s a (Ok q) after = (has_state (t.entry s (present s) a) q ≡ true) × ((u : ℕ) → after u ≡ moved present s q u)
Performs t present s a (Err e) after = (e ≡ refused cause.CannotPerform 0) × (t.entry s (present s) a ≡ 0) × ((u : ℕ) → after u ≡ present u)
