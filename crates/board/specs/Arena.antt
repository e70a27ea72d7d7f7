-- What a board means: numbered positions and choices, which positions are done, and the outcomes of each choice.
use Rattle.std.specs.Prelude.{◌≡◌, ℕ, ◌<◌, ◌≤◌, Bool, true, false, List, []}
use Rattle.board.specs.Lists.{Member}

pub record Arena : Type 0 where
  pub positions : ℕ
  pub choices : ℕ
  pub done : ℕ → Bool
  pub outcomes : ℕ → ℕ → List ℕ

-- what every board shows
pub record Lawful (b : Arena) : Type 0 where
  pub a_position : 0 < b.positions
  pub few_positions : b.positions ≤ 1024
  pub a_choice : 0 < b.choices
  pub few_choices : b.choices ≤ 128
  pub on_board : (p c q : ℕ) → Member q (b.outcomes p c) → q < b.positions
  pub done_ends : (p c : ℕ) → b.done p ≡ true → b.outcomes p c ≡ []
  pub beyond_done : (p : ℕ) → b.positions ≤ p → b.done p ≡ false
  pub beyond : (p c : ℕ) → b.positions ≤ p → b.outcomes p c ≡ []
  pub beyond_choices : (p c : ℕ) → b.choices ≤ c → b.outcomes p c ≡ []
