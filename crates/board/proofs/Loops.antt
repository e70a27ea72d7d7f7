-- Readers as sequences of steps.
use Rattle.std.proofs.Common.{◌≡◌, Ok, Result, ap, ◌∙◌}
use Rattle.wire.specs.declared.refusal.Refusal.{Refusal}
use Rattle.wire.specs.Reading.{and_then}

-- a sequence goes on from a value
pub went_on : {X Y : Type 0} (r : Result X Refusal) (f : X → Result Y Refusal) (x : X) (q : Result Y Refusal) → r ≡ Ok x → f x ≡ q → and_then r f ≡ q
went_on r f x q p s = ap (λ t. and_then t f) p ∙ s
