-- `holds` decides the rules of truth.
use Rattle.std.proofs.Common.{ℕ, suc, ◌-◌, ◌<◌, ◌≤◌, ◌⊎◌, length, get_or, le-leb, leb-true}
use Rattle.std.proofs.lemmas.Bool.Decides.{Decides-like, Decides-not, Decides-and, Decides-or, Decides-ltb, Decides-eqb}
use Rattle.wire.specs.Bounded.{some_from, every_from}
use Rattle.wire.proofs.Bounded.{decides_implies, some_to, every_to}
use Rattle.ltlf.specs.Formula.{letter, neg, next, weak_next, eventually, always, conj, disj, implies, until, release}
use Rattle.ltlf.specs.Truth.{holds}
use Rattle.ltlf.specs.Meaning.{Holds, Decided}

pub decided : Decided
decided (letter a) t i = Decides-and _ _ (Decides-ltb i (length t)) (Decides-eqb (get_or t i 0) a)
decided (neg f) t i = Decides-not (holds f t i) (decided f t i)
decided (next f) t i = Decides-and _ (holds f t (suc i)) (Decides-ltb (suc i) (length t)) (decided f t (suc i))
decided (weak_next f) t i = Decides-or _ (holds f t (suc i)) (leb-true (length t) (suc i), le-leb (length t) (suc i)) (decided f t (suc i))
decided (eventually f) t i = some_to (holds f t) (Holds f t) (decided f t) i (length t)
decided (always f) t i = every_to (holds f t) (Holds f t) (decided f t) i (length t)
decided (conj f g) t i = Decides-and (holds f t i) (holds g t i) (decided f t i) (decided g t i)
decided (disj f g) t i = Decides-or (holds f t i) (holds g t i) (decided f t i) (decided g t i)
decided (implies f g) t i = decides_implies (holds f t i) (holds g t i) (decided f t i) (decided g t i)
decided (until f g) t i =
    Decides-like (holds (until f g) t i)
    (λ w. (w.0, w.1, w.2, w.3.0, w.3.1))
    (λ w. (w.0, w.1, w.2, (w.3, w.4)))
    (some_to _ (λ j. Holds g t j × ((m : ℕ) → i ≤ m → m < j → Holds f t m))
    (λ j. Decides-and (holds g t j) (every_from i (j - i) (holds f t)) (decided g t j) (every_to (holds f t) (Holds f t) (decided f t) i j))
    i (length t))
decided (release f g) t i =
    every_to _ (λ j. Holds g t j ⊎ ((m : ℕ) × (i ≤ m) × (m < j) × Holds f t m))
    (λ j. Decides-or (holds g t j) (some_from i (j - i) (holds f t)) (decided g t j) (some_to (holds f t) (Holds f t) (decided f t) i j))
    i (length t)
