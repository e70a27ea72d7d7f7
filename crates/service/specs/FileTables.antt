-- The tables of a services file.
use Rattle.std.specs.Prelude.{◌≡◌, ℕ, ◌^◌, ◌<◌, ◌≤◌, Bool, cond, ◌&&◌, List, [], Ok, nat_lt, slice_index, slice_index_or}
use Rattle.std.proofs.Common.{sym, ap, subst, ⊎_elim, arith, pow_pos}
use Rattle.std.proofs.lemmas.Bool.{cases_lt, lt-ltb, le-ltb, ltb-true, and_parts, and_left, and_right, cond-true, cond-false, cond_both}
use Rattle.service.specs.declared.service.Service.{Service}
use Rattle.service.specs.File.{Contents, no_service, Within, ServiceWithin, file_of}
use Rattle.service.specs.Tables.{Tables, Lawful}

-- service s of the file, with no states past the last one
abbrev pub service_at : Contents → ℕ → Service
service_at c s = cond (nat_lt s c.count) (slice_index_or c.services s no_service) no_service

abbrev pub set_at : Service → ℕ → ℕ → ℕ
set_at x q a = slice_index (slice_index_or x.entries q []) a

abbrev pub entry_in : Contents → ℕ → ℕ → ℕ → ℕ
entry_in c s q a = cond (nat_lt q (service_at c s).states && nat_lt a c.actions) (set_at (service_at c s) q a) 0

abbrev pub tables_of : Contents → Tables
tables_of c = record {
  services = c.count;
  actions = c.actions;
  states = λ s. (service_at c s).states;
  entry = entry_in c;
}

abbrev pub initial_of : Contents → ℕ → ℕ
initial_of c s = (service_at c s).initial

abbrev pub finals_of : Contents → ℕ → ℕ
finals_of c s = (service_at c s).finals

-- a file with every number in its field gives lawful tables, with each service in its initial state
module _ (c : Contents) (w : Within c) where
  used : (s : ℕ) → s < c.count → service_at c s ≡ slice_index_or c.services s no_service
  used s h = cond-true (nat_lt s c.count) (slice_index_or c.services s no_service) no_service (lt-ltb s c.count h)

  within : (s : ℕ) → s < c.count → ServiceWithin c.actions (service_at c s)
  within s h = subst (ServiceWithin c.actions) (sym (used s h)) (w.services.used s h)

  past : (s : ℕ) → c.count ≤ s → service_at c s ≡ no_service
  past s h = cond-false (nat_lt s c.count) (slice_index_or c.services s no_service) no_service (le-ltb s c.count h)

  past_states : (s : ℕ) → c.count ≤ s → (service_at c s).states ≡ 0
  past_states s h = ap (λ (x : Service). x.states) (past s h)

  set_inside : (s q a : ℕ) → q < (service_at c s).states → a < c.actions → set_at (service_at c s) q a < 2 ^ (service_at c s).states
  set_inside s q a h l =
      ⊎_elim (λ lt. ((within s lt).entries.used q h).used a l) (λ ge. absurd (omega (arith, past_states s ge))) (cases_lt s c.count)

  abbrev entered : ℕ → ℕ → ℕ → Bool
  entered s q a = nat_lt q (service_at c s).states && nat_lt a c.actions

  inside : (s q a : ℕ) → entry_in c s q a < 2 ^ (service_at c s).states
  inside s q a =
      cond_both (entered s q a) (set_at (service_at c s) q a) 0 (λ x. x < 2 ^ (service_at c s).states)
      (λ t. let p = and_parts (nat_lt q (service_at c s).states) (nat_lt a c.actions) t in set_inside s q a (ltb-true q (service_at c s).states p.0) (ltb-true a c.actions p.1))
      (λ _. pow_pos (service_at c s).states)

  past_state : (s q a : ℕ) → (service_at c s).states ≤ q → entry_in c s q a ≡ 0
  past_state s q a h =
      cond-false (entered s q a) (set_at (service_at c s) q a) 0 (and_left (nat_lt q (service_at c s).states) (nat_lt a c.actions) (le-ltb q (service_at c s).states h))

  past_action : (s q a : ℕ) → c.actions ≤ a → entry_in c s q a ≡ 0
  past_action s q a h =
      cond-false (entered s q a) (set_at (service_at c s) q a) 0 (and_right (nat_lt q (service_at c s).states) (nat_lt a c.actions) (le-ltb a c.actions h))

  pub file_lawful : Lawful (tables_of c) (initial_of c)
  file_lawful = record {
    some_service = w.some_service;
    few_services = w.few_services;
    some_action = w.some_action;
    few_actions = w.few_actions;
    some_state = λ s h. (within s h).some_state;
    few_states = λ s h. (within s h).few_states;
    no_states = past_states;
    inside = inside;
    past_service = λ s q a h. past_state s q a (omega (arith, past_states s h));
    past_state = past_state;
    past_action = past_action;
    present_inside = λ s h. (within s h).initial;
    present_past = λ s h. ap (λ (x : Service). x.initial) (past s h);
  }

-- every file that is accepted gives such tables
abbrev pub ServicesLawful : List ℕ → Type 0
ServicesLawful bs = (c : Contents) → file_of bs ≡ Ok c → Lawful (tables_of c) (initial_of c)
