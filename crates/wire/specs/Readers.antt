-- A reader: bytes, and the place of the next number among them.
use Rattle.std.specs.Prelude.{◌≡◌, ℕ, cond, List, length, Ok, Err, Result, nat_lt}
use Rattle.wire.specs.declared.refusal.Cause.TheVariants as cause
use Rattle.wire.specs.declared.refusal.Refusal.{Refusal}
use Rattle.wire.specs.Refusals.{refused}

-- what a reader answers, and where it then stands, by what stands in the bytes: a value and where that ends, or a refusal, which moves nothing
abbrev pub Moves : {X : Type 0} → Result X Refusal → ℕ → ℕ → Result (X × ℕ) Refusal → Type 0
Moves (Ok x) old new there = there ≡ Ok (x, new)
Moves (Err e) old new there = (there ≡ Err e) × (new ≡ old)

-- whether nothing is left from a place on
abbrev pub ended : List ℕ → ℕ → Result (Unit {0}) Refusal
ended bs at = cond (nat_lt at (length bs)) (Err (refused cause.BytesLeftOver at)) (Ok tt)
