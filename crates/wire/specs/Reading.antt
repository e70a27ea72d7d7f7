-- Readers as functions into a result: one part after another, the first refusal ends it.
use Rattle.std.specs.Prelude.{ℕ, zero, suc, ◌+◌, Ok, Err, Result}
use Rattle.wire.specs.declared.refusal.Refusal.{Refusal}

abbrev pub and_then : {X Y : Type 0} → Result X Refusal → (X → Result Y Refusal) → Result Y Refusal
and_then (Ok x) f = f x
and_then (Err e) f = Err e

-- n steps, numbered from i
abbrev pub steps : {S : Type 0} → (ℕ → S → Result S Refusal) → ℕ → ℕ → S → Result S Refusal
steps f zero i s = Ok s
steps f (suc n) i s = and_then (f i s) (steps f n (i + 1))

-- what a reader answers that fills an output
abbrev pub answer : {X : Type 0} → Result X Refusal → Result (Unit {0}) Refusal
answer (Ok x) = Ok tt
answer (Err e) = Err e

-- what it leaves there: what was read, or after a refusal the zero value
abbrev pub left : {X : Type 0} → X → Result X Refusal → X
left zeroed (Ok x) = x
left zeroed (Err e) = zeroed
