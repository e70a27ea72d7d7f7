-- Games of one orchestrator against what may happen. X is what the orchestrator has read so far.
use Rattle.std.specs.Prelude.{◌≡◌, ℕ, zero, suc, ◌-◌, ◌<◌, Bool, true, false, cond, ◌&&◌, ◌||◌, ◌⊎◌, List, Some, None, Option}
use Rattle.std.specs.List.{list_all}
use Rattle.board.specs.Lists.{Member, some, any_below, least}

pub record Game (X : Type 0) : Type 0 where
  pub choices : ℕ
  pub done : X → Bool
  pub outcomes : X → ℕ → List X

-- a playable choice with all outcomes in w
abbrev pub forced : {X : Type 0} → Game X → (X → Bool) → X → ℕ → Bool
forced g w x c = some (g.outcomes x c) && list_all w (g.outcomes x c)

-- one round: what is in w, and where some playable choice has all outcomes in w
abbrev pub round : {X : Type 0} → Game X → (X → Bool) → X → Bool
round g w x = w x || any_below g.choices (forced g w x)

-- won g m x: success can be forced from x within m steps
abbrev pub won : {X : Type 0} → Game X → ℕ → X → Bool
won g zero x = g.done x
won g (suc m) x = round g (won g m) x

-- the least number up to n within which x is won, or n + 1
abbrev pub rank_to : {X : Type 0} → Game X → ℕ → X → ℕ
rank_to g n x = least (suc n) (λ m. won g m x)

-- the lowest playable choice with all outcomes won within one less
abbrev pub choice_to : {X : Type 0} → Game X → ℕ → X → ℕ
choice_to g n x = least g.choices (forced g (won g (rank_to g n x - 1)) x)

-- Unfinished g start o x n: a play from start that follows the orchestrator o, stands at x after n steps and has not been done yet
pub data Unfinished {X : Type 0} (g : Game X) (start : X) (o : X → ℕ) : X → ℕ → Type 0 where
  begun : g.done start ≡ false → Unfinished g start o start 0
  moved : {x y : X} {n : ℕ} → Unfinished g start o x n → Member y (g.outcomes x (o x)) → g.done y ≡ false → Unfinished g start o y (suc n)

-- every play succeeds within m steps: one that has not succeeded yet has made fewer, and its next choice is playable
abbrev pub Forces : {X : Type 0} → Game X → X → (X → ℕ) → ℕ → Type 0
Forces {X} g start o m = (x : X) (n : ℕ) → Unfinished g start o x n → (n < m) × (o x < g.choices) × (some (g.outcomes x (o x)) ≡ true)

-- the same by recursion: x is done, or fewer steps are left, the choice is playable, and so it goes on from every outcome
abbrev pub Within : {X : Type 0} → Game X → (X → ℕ) → ℕ → X → Type 0
Within g o zero x = g.done x ≡ true
Within {X} g o (suc m) x = (g.done x ≡ true) ⊎ ((o x < g.choices) × (some (g.outcomes x (o x)) ≡ true) × ((y : X) → Member y (g.outcomes x (o x)) → Within g o m y))

-- The same as a program finds it, round by round: a rank that is found stands, and what round m wins first has rank m.
abbrev pub next_rank : Option ℕ → Bool → ℕ → Option ℕ
next_rank (Some r) w m = Some r
next_rank None w m = cond w (Some m) None

abbrev pub found_by : {X : Type 0} → Game X → ℕ → X → Option ℕ
found_by g zero x = cond (g.done x) (Some 0) None
found_by g (suc m) x = next_rank (found_by g m x) (won g (suc m) x) (suc m)

-- a rank, if x is won within n
abbrev pub rank_if : {X : Type 0} → Game X → ℕ → X → Option ℕ
rank_if g n x = cond (won g n x) (Some (rank_to g n x)) None
