-- One more action in front moves each place by one.
use Rattle.std.proofs.Common.{suc, not, ◌&&◌, ◌||◌, eqb, length, get_or, ap, ap₂}
use lib.Dec.{leb-suc-suc}
use Rattle.wire.proofs.Bounded.{some_left, every_left}
use Rattle.ltlf.specs.Formula.{letter, neg, next, weak_next, eventually, always, conj, disj, implies, until, release}
use Rattle.ltlf.specs.Suffix.{Shifts}

pub shift : Shifts
shift (letter a) x t i = ap (λ b. b && eqb (get_or t i 0) a) (leb-suc-suc (suc i) (length t))
shift (neg f) x t i = ap not (shift f x t i)
shift (next f) x t i = ap₂ ◌&&◌ (leb-suc-suc (suc (suc i)) (length t)) (shift f x t (suc i))
shift (weak_next f) x t i = ap₂ ◌||◌ (leb-suc-suc (length t) (suc i)) (shift f x t (suc i))
shift (eventually f) x t i = some_left (length t) i _ _ (shift f x t)
shift (always f) x t i = every_left (length t) i _ _ (shift f x t)
shift (conj f g) x t i = ap₂ ◌&&◌ (shift f x t i) (shift g x t i)
shift (disj f g) x t i = ap₂ ◌||◌ (shift f x t i) (shift g x t i)
shift (implies f g) x t i = ap₂ (λ a b. not a || b) (shift f x t i) (shift g x t i)
shift (until f g) x t i = some_left (length t) i _ _ (λ j. ap₂ ◌&&◌ (shift g x t j) (every_left j i _ _ (shift f x t)))
shift (release f g) x t i = every_left (length t) i _ _ (λ j. ap₂ ◌||◌ (shift g x t j) (some_left j i _ _ (shift f x t)))
