-- The game of a task and services, in which an orchestrator reads the choices and states so far.
use Rattle.std.specs.Prelude.{ℕ, ◌*◌, ◌/◌, ◌%◌, Bool, ◌&&◌, List, [], ◌∷◌, ◌++◌, map, slice_index, slice_set}
use Rattle.board.specs.Lists.{every_below}
use Rattle.board.specs.Game.{Game, Forces}
use Rattle.composition.specs.Services.{Services}

-- choice number service × k + action
abbrev pub service_of_choice : Services → ℕ → ℕ
service_of_choice s c = c / s.actions

abbrev pub action_of : Services → ℕ → ℕ
action_of s c = c % s.actions

-- the choices so far with the states that they led to, newest first
abbrev pub Story : Type 0
Story = List (ℕ × ℕ)

-- the actions, in order
abbrev pub actions_of : Services → Story → List ℕ
actions_of s [] = []
actions_of s (x ∷ h) = actions_of s h ++ (action_of s x.0 ∷ [])

-- the states of all services
abbrev pub states_of : Services → Story → List ℕ
states_of s [] = s.initial
states_of s (x ∷ h) = slice_set (states_of s h) (service_of_choice s x.0) x.1

-- the states to which a choice may lead
abbrev pub next_states : Services → List ℕ → ℕ → List ℕ
next_states s states c = s.entry (service_of_choice s c) (slice_index states (service_of_choice s c)) (action_of s c)

abbrev pub all_final : Services → List ℕ → Bool
all_final s states = every_below s.count (λ i. s.final i (slice_index states i))

-- success: the actions satisfy the task, and every state is final
abbrev pub sale : (List ℕ → Bool) → Services → Game Story
sale sat s = record {
  choices = s.count * s.actions;
  done = λ h. sat (actions_of s h) && all_final s (states_of s h);
  outcomes = λ h c. map (λ q. (c, q) ∷ h) (next_states s (states_of s h) c);
}

-- an orchestrator reads the story, and names the next choice
abbrev pub Orchestrator : Type 0
Orchestrator = Story → ℕ

-- every story that follows o from the initial states on succeeds within m choices
abbrev pub Sells : (List ℕ → Bool) → Services → Orchestrator → ℕ → Type 0
Sells sat s o m = Forces (sale sat s) [] o m
