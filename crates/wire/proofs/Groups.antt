-- What `read_number` says of bytes whose first ones are known.
use Rattle.std.proofs.Common.{◌≡◌, ℕ, ◌+◌, ◌-◌, ◌*◌, ◌<◌, ◌≤◌, List, [], ◌∷◌, length, get_or, take, drop, ⊎_elim, arith}
use Rattle.std.proofs.lemmas.List.{take_rest}
use Rattle.std.proofs.lemmas.Bool.Decides.{nat_tests}
use Rattle.std.proofs.lemmas.Bool.{cases_lt}
use Rattle.wire.specs.Number.{read_number, value, Begins, RoundTrip}

abbrev pub rest : ℕ → List ℕ → List ℕ
rest i xs = take (length xs - i) (drop i xs)

-- a number of one, two and three bytes
abbrev pub Reads : List ℕ → ℕ → List ℕ → Type 0
Reads xs v ys = (read_number xs ≡ value v ys) × Begins xs v ys

pub one : (xs : List ℕ) (v : ℕ) → 0 < length xs → get_or xs 0 0 < 128 → v ≡ get_or xs 0 0 → Reads xs v (rest 1 xs)
one [] v h l e = absurd (omega arith)
one (a ∷ xs) v h l e = rw (take_rest (a ∷ xs) 1, e) (grind (arith, nat_tests), (omega arith, grind (arith, nat_tests)))

pub two : (xs : List ℕ) (v : ℕ) → 1 < length xs → 128 ≤ get_or xs 0 0 → get_or xs 0 0 < 256 → 0 < get_or xs 1 0 → get_or xs 1 0 < 128 → v ≡ (get_or xs 0 0 - 128) + 128 * get_or xs 1 0 → Reads xs v (rest 2 xs)
two [] v h l b m n e = absurd (omega arith)
two (a ∷ []) v h l b m n e = absurd (omega arith)
two (a ∷ b ∷ bs) v h l f m n e = rw (take_rest (a ∷ b ∷ bs) 2, e) (grind (arith, nat_tests), (omega arith, grind (arith, nat_tests)))

pub three : (xs : List ℕ) (v : ℕ) → 2 < length xs → 128 ≤ get_or xs 0 0 → get_or xs 0 0 < 256 → 128 ≤ get_or xs 1 0 → get_or xs 1 0 < 256 → 0 < get_or xs 2 0 → get_or xs 2 0 ≤ 3 → v ≡ (get_or xs 0 0 - 128) + 128 * (get_or xs 1 0 - 128) + 16384 * get_or xs 2 0 → Reads xs v (rest 3 xs)
three [] v h k f l g m n e = absurd (omega arith)
three (a ∷ []) v h k f l g m n e = absurd (omega arith)
three (a ∷ b ∷ []) v h k f l g m n e = absurd (omega arith)
three (a ∷ b ∷ c ∷ cs) v h k f l g m n e = rw (take_rest (a ∷ b ∷ c ∷ cs) 3, e) (grind (arith, nat_tests), (omega arith, grind (arith, nat_tests)))

pub round_trip : RoundTrip
round_trip n after h =
    ⊎_elim (λ l. grind (arith, nat_tests)) (λ g. ⊎_elim (λ l. grind (arith, nat_tests)) (λ l. grind (arith, nat_tests)) (cases_lt n 16384)) (cases_lt n 128)
