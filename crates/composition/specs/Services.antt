-- Services: what an orchestrator can have them do.
use Rattle.std.specs.Prelude.{ℕ, zero, suc, Bool, true, false, List, [], ◌∷◌, map}
use Rattle.std.specs.List.{range_with_len}
use Rattle.service.specs.File.{Contents}
use Rattle.service.specs.FileTables.{tables_of, initial_of, finals_of}
use Rattle.service.specs.Tables.{has_state}

-- entry: of a service, a state and an action, the states that may follow; none where the action can't be done
pub record Services : Type 0 where
  pub count : ℕ
  pub actions : ℕ
  pub initial : List ℕ
  pub entry : ℕ → ℕ → ℕ → List ℕ
  pub final : ℕ → ℕ → Bool

abbrev pub keep : Bool → ℕ → List ℕ → List ℕ
keep true q qs = q ∷ qs
keep false q qs = qs

-- those of the n states from q on that are in the set, ascending
abbrev pub states_from : ℕ → ℕ → ℕ → List ℕ
states_from set zero q = []
states_from set (suc n) q = keep (has_state set q) q (states_from set n (suc q))

-- a set of states as a list
unfoldable pub states_in : ℕ → List ℕ
states_in set = states_from set 16 0

-- the services of a file; their states are read from 8 slots
abbrev pub services_of : Contents → Services
services_of c = record {
  count = c.count;
  actions = c.actions;
  initial = map (initial_of c) (range_with_len 0 8);
  entry = λ s q a. states_in ((tables_of c).entry s q a);
  final = λ s q. has_state (finals_of c s) q;
}
