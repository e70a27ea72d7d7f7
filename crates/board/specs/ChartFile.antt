-- The file of a board, and which bytes are such files.
use Rattle.std.specs.Prelude.{◌≡◌, ℕ, zero, suc, ◌+◌, ◌<◌, ◌≤◌, cond, ◌⊎◌, List, [], ◌∷◌, ◌++◌, length, Ok, Err, Result, ◌≢◌}
use Rattle.wire.specs.declared.refusal.Refusal.{Refusal}
use Rattle.wire.specs.Refusals.{no_memory}
use Rattle.wire.specs.Number.{groups}
use Rattle.board.specs.Arena.{Arena}

-- numbers one after another
abbrev pub numbers : List ℕ → List ℕ
numbers [] = []
numbers (x ∷ xs) = groups x ++ numbers xs

-- n pieces one after another
abbrev pub pieces : (ℕ → List ℕ) → ℕ → List ℕ
pieces f zero = []
pieces f (suc n) = f 0 ++ pieces (λ i. f (suc i)) n

-- the number of outcomes, and the outcomes
abbrev pub choice_bytes : List ℕ → List ℕ
choice_bytes xs = groups (length xs) ++ numbers xs

-- the done flag, and each choice
abbrev pub place_bytes : Arena → ℕ → List ℕ
place_bytes a p = groups (cond (a.done p) 1 0) ++ pieces (λ c. choice_bytes (a.outcomes p c)) a.choices

-- the number of positions, the number of choices, and each position
abbrev pub file_bytes : Arena → List ℕ
file_bytes a = groups a.positions ++ (groups a.choices ++ pieces (place_bytes a) a.positions)

-- strictly ascending, from low on and below n
abbrev pub Rising : ℕ → ℕ → List ℕ → Type 0
Rising low n [] = Unit {0}
Rising low n (x ∷ xs) = (low ≤ x) × (x < n) × Rising (x + 1) n xs

-- the boards that a chart file can hold
pub record Charted (a : Arena) : Type 0 where
  pub a_position : 1 ≤ a.positions
  pub few_positions : a.positions ≤ 256
  pub a_choice : 1 ≤ a.choices
  pub few_choices : a.choices ≤ 8
  pub few_outcomes : (p c : ℕ) → p < a.positions → c < a.choices → length (a.outcomes p c) ≤ cond (a.done p) 0 8
  pub rising : (p c : ℕ) → p < a.positions → c < a.choices → Rising 0 a.positions (a.outcomes p c)

-- the same board, within its numbers of positions and choices
pub record Same (a b : Arena) : Type 0 where
  pub positions : a.positions ≡ b.positions
  pub choices : a.choices ≡ b.choices
  pub done : (p : ℕ) → p < a.positions → a.done p ≡ b.done p
  pub outcomes : (p c : ℕ) → p < a.positions → c < a.choices → a.outcomes p c ≡ b.outcomes p c

-- accepted bytes are the file of the board that is left, and of no other; refused ones, unless memory was wanting, of none
abbrev pub ChartLaw : List ℕ → Result (Unit {0}) Refusal → Arena → Type 0
ChartLaw bs (Ok x) a = Charted a × (bs ≡ file_bytes a) × ((b : Arena) → Charted b → bs ≡ file_bytes b → Same b a)
ChartLaw bs (Err e) a = (e ≡ no_memory) ⊎ ((b : Arena) → Charted b → bs ≢ file_bytes b)
