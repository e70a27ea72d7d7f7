-- The rules of truth as statements.
use Rattle.std.specs.Prelude.{◌≡◌, ℕ, suc, ◌<◌, ◌≤◌, ◌⊎◌, List, length, Decides, slice_index}
use Rattle.ltlf.specs.Formula.{Formula, letter, neg, next, weak_next, eventually, always, conj, disj, implies, until, release}
use Rattle.ltlf.specs.Truth.{holds}

-- f holds of the trace t at place i, from 0 to the length of t
abbrev pub Holds : Formula → List ℕ → ℕ → Type 0
Holds (letter a) t i = (i < length t) × (slice_index t i ≡ a)
Holds (neg f) t i = Holds f t i → ⊥
Holds (next f) t i = (suc i < length t) × Holds f t (suc i)
Holds (weak_next f) t i = (length t ≤ suc i) ⊎ Holds f t (suc i)
Holds (eventually f) t i = (j : ℕ) × (i ≤ j) × (j < length t) × Holds f t j
Holds (always f) t i = (j : ℕ) → i ≤ j → j < length t → Holds f t j
Holds (conj f g) t i = Holds f t i × Holds g t i
Holds (disj f g) t i = Holds f t i ⊎ Holds g t i
Holds (implies f g) t i = Holds f t i → Holds g t i
Holds (until f g) t i = (j : ℕ) × (i ≤ j) × (j < length t) × Holds g t j × ((m : ℕ) → i ≤ m → m < j → Holds f t m)
Holds (release f g) t i = (j : ℕ) → i ≤ j → j < length t → Holds g t j ⊎ ((m : ℕ) × (i ≤ m) × (m < j) × Holds f t m)

-- a trace satisfies a formula that holds at its place 0
abbrev pub Satisfies : Formula → List ℕ → Type 0
Satisfies f t = Holds f t 0

-- the test `holds` decides the statement `Holds`
abbrev pub Decided : Type 0
Decided = (f : Formula) (t : List ℕ) (i : ℕ) → Decides (holds f t i) (Holds f t i)
