-- A number of a file that has to lie within its field.
use Rattle.std.specs.Prelude.{ℕ, cond, ◌||◌, List, Ok, Err, Result, nat_lt}
use Rattle.wire.specs.declared.refusal.Cause.TheVariants as cause
use Rattle.wire.specs.declared.refusal.Refusal.{Refusal}
use Rattle.wire.specs.Refusals.{refused}
use Rattle.wire.specs.Number.{number_at}

abbrev pub ranged : ℕ → ℕ → ℕ → Result (ℕ × ℕ) Refusal → Result (ℕ × ℕ) Refusal
ranged at low high (Ok p) = cond (nat_lt p.0 low || nat_lt high p.0) (Err (refused cause.OutsideField at)) (Ok p)
ranged at low high (Err e) = Err e

-- a number from low to high at a place, and where it ends
abbrev pub field : List ℕ → ℕ → ℕ → ℕ → Result (ℕ × ℕ) Refusal
field bs at low high = ranged at low high (number_at bs at)
