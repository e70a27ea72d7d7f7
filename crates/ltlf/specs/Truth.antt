-- Truth of a formula on a finite trace, at a place.
use Rattle.std.specs.Prelude.{ℕ, suc, ◌-◌, Bool, not, ◌&&◌, ◌||◌, List, length, ◌==◌, nat_le, nat_lt, slice_index}
use Rattle.wire.specs.Bounded.{some_from, every_from}
use Rattle.ltlf.specs.Formula.{Formula, letter, neg, next, weak_next, eventually, always, conj, disj, implies, until, release}

-- holds f t i: f holds of the trace t at place i, from 0 to the length of t
abbrev pub holds : Formula → List ℕ → ℕ → Bool
holds (letter a) t i = nat_lt i (length t) && slice_index t i == a
holds (neg f) t i = not (holds f t i)
holds (next f) t i = nat_lt (suc i) (length t) && holds f t (suc i)
holds (weak_next f) t i = nat_le (length t) (suc i) || holds f t (suc i)
holds (eventually f) t i = some_from i (length t - i) (holds f t)
holds (always f) t i = every_from i (length t - i) (holds f t)
holds (conj f g) t i = holds f t i && holds g t i
holds (disj f g) t i = holds f t i || holds g t i
holds (implies f g) t i = not (holds f t i) || holds g t i
holds (until f g) t i = some_from i (length t - i) (λ j. holds g t j && every_from i (j - i) (holds f t))
holds (release f g) t i = every_from i (length t - i) (λ j. holds g t j || some_from i (j - i) (holds f t))

-- a trace satisfies a formula that holds at its place 0
abbrev pub satisfied : Formula → List ℕ → Bool
satisfied f t = holds f t 0
