-- The bytes of a number are its shortest form.
use Rattle.std.proofs.Common.{◌≡◌, ℕ, ◌+◌, ◌/◌, ◌%◌, ◌<◌, ◌≤◌, ltb, List, [], ◌∷◌, length, sym, ◌∙◌, subst, ⊎_elim, arith}
use Rattle.std.proofs.lemmas.Bool.{cases_lt, cond-true, cond-false, lt-ltb, le-ltb}
use Rattle.wire.specs.Number.{largest, worth, Form, Shortest}

-- a form of one byte is worth less than 128, and one of two less than 16,384
one_byte : (cs : List ℕ) → Form cs → length cs ≤ 1 → worth cs < 128
one_byte [] f h = absurd f
one_byte (b ∷ []) f h = omega arith
one_byte (b ∷ (c ∷ cs)) f h = absurd (omega arith)

two_bytes : (cs : List ℕ) → Form cs → length cs ≤ 2 → worth cs < 16384
two_bytes [] f h = absurd f
two_bytes (b ∷ []) f h = omega arith
two_bytes (b ∷ (c ∷ cs)) f h = let w = one_byte (c ∷ cs) f.2 (omega arith) in omega (arith, w)

some_byte : (cs : List ℕ) → Form cs → 1 ≤ length cs
some_byte [] f = absurd f
some_byte (b ∷ cs) f = omega arith

abbrev ShortestAt : ℕ → List ℕ → Type 0
ShortestAt n bs = Form bs × (worth bs ≡ n) × ((cs : List ℕ) → Form cs → worth cs ≡ n → length bs ≤ length cs)

at_one : (n : ℕ) → n < 128 → ShortestAt n (n ∷ [])
at_one n h = (h, omega arith, λ cs f e. some_byte cs f)

at_two : (n : ℕ) → 128 ≤ n → n < 16384 → ShortestAt n ((n % 128 + 128) ∷ (n / 128) ∷ [])
at_two n h l = (
  (omega arith, omega arith, omega arith),
  omega arith,
  λ cs f e. ⊎_elim (λ short. absurd (omega (arith, one_byte cs f (omega arith)))) (λ long. omega arith) (cases_lt (length cs) 2),
)

at_three : (n : ℕ) → 16384 ≤ n → n ≤ largest → ShortestAt n ((n % 128 + 128) ∷ (n / 128 % 128 + 128) ∷ (n / 16384) ∷ [])
at_three n h l = (
  (omega arith, omega arith, (omega arith, omega arith, omega arith)),
  omega arith,
  λ cs f e. ⊎_elim (λ short. absurd (omega (arith, two_bytes cs f (omega arith)))) (λ long. omega arith) (cases_lt (length cs) 3),
)

pub shortest : Shortest
shortest n h =
    ⊎_elim
    (λ (l : n < 128). subst (ShortestAt n) (sym (cond-true (ltb n 128) _ _ (lt-ltb n 128 l))) (at_one n l))
    (λ (g : 128 ≤ n).
    ⊎_elim
    (λ (l : n < 16384). subst (ShortestAt n) (sym (cond-false (ltb n 128) _ _ (le-ltb n 128 g) ∙ cond-true (ltb n 16384) _ _ (lt-ltb n 16384 l))) (at_two n g l))
    (λ (g' : 16384 ≤ n). subst (ShortestAt n) (sym (cond-false (ltb n 128) _ _ (le-ltb n 128 g) ∙ cond-false (ltb n 16384) _ _ (le-ltb n 16384 g'))) (at_three n g' h))
    (cases_lt n 16384))
    (cases_lt n 128)
