-- One turn of a loop of steps that can refuse.
use Rattle.std.proofs.Common.{◌≡◌, ℕ, suc, ◌+◌, ◌-◌, ◌<◌, Ok, Err, Result, ap, ◌∙◌, arith}
use Rattle.wire.specs.declared.refusal.Refusal.{Refusal}
use Rattle.wire.specs.Reading.{and_then, steps}

module _ {S : Type 0} (f : ℕ → S → Result S Refusal) (n i : ℕ) (s : S) (h : i < n) where
  pub opened : steps f (n - i) i s ≡ and_then (f i s) (steps f (n - (i + 1)) (i + 1))
  opened = let e : n - i ≡ suc (n - (i + 1)) = omega arith in ap (λ m. steps f m i s) e

  pub more : (t : S) → f i s ≡ Ok t → steps f (n - i) i s ≡ steps f (n - (i + 1)) (i + 1) t
  more t e = opened ∙ ap (λ r. and_then r (steps f (n - (i + 1)) (i + 1))) e

  pub stops : (e : Refusal) → f i s ≡ Err e → steps f (n - i) i s ≡ Err e
  stops e p = opened ∙ ap (λ r. and_then r (steps f (n - (i + 1)) (i + 1))) p
