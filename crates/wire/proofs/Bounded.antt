-- Tests at places in a row: what they decide, and how they move with the places.
use Rattle.std.proofs.Common.{◌≡◌, ℕ, zero, suc, ◌+◌, ◌-◌, ◌<◌, ◌≤◌, Bool, true, false, not, ◌&&◌, ◌||◌, ◌⊎◌, Decides, sym, refl, ap, ◌∙◌, subst, ap₂, inl, inr, ⊎_elim, true≢false, arith}
use native.Mathlib.Nat.{suc-sub-suc}
use Rattle.std.proofs.lemmas.Bool.Decides.{Decides-like, Decides-not, Decides-and, Decides-or}
use Rattle.std.proofs.lemmas.Bool.{cases_eq}
use Rattle.wire.specs.Bounded.{some_from, every_from}

-- an implication from what a test decides
pub if_then : {P Q : Type 0} (a : Bool) → Decides a P → (P → Q) → (P → ⊥) ⊎ Q
if_then true d h = inr (h (d.0 refl))
if_then false d h = inl (λ x. true≢false (sym (d.1 x)))

pub decides_implies : {P Q : Type 0} (a b : Bool) → Decides a P → Decides b Q → Decides (not a || b) (P → Q)
decides_implies a b d e = Decides-like (not a || b) (⊎_elim (λ n x. absurd (n x)) (λ y x. y)) (if_then a d) (Decides-or (not a) b (Decides-not a d) e)

module _ (p : ℕ → Bool) (P : ℕ → Type 0) (d : (j : ℕ) → Decides (p j) (P j)) where
  pub decides_some : (i n : ℕ) → Decides (some_from i n p) ((j : ℕ) × (i ≤ j) × (j < i + n) × P j)
  decides_some i zero = (λ e. absurd (true≢false (sym e)), λ w. absurd (omega (arith, w.1, w.2)))
  decides_some i (suc n) =
      Decides-like (p i || some_from (suc i) n p)
      (⊎_elim (λ h. (i, omega arith, omega arith, h)) (λ w. (w.0, omega (arith, w.1), omega (arith, w.2), w.3)))
      (λ w. ⊎_elim (λ e. inl (subst P e w.3)) (λ ne. inr (w.0, omega (arith, w.1), omega (arith, w.2), w.3)) (cases_eq w.0 i))
      (Decides-or (p i) (some_from (suc i) n p) (d i) (decides_some (suc i) n))

  pub decides_every : (i n : ℕ) → Decides (every_from i n p) ((j : ℕ) → i ≤ j → j < i + n → P j)
  decides_every i zero = (λ e j a b. absurd (omega arith), λ h. refl)
  decides_every i (suc n) =
      Decides-like (p i && every_from (suc i) n p)
      (λ h j a b. ⊎_elim (λ e. subst P (sym e) h.0) (λ ne. h.1 j (omega arith) (omega arith)) (cases_eq j i))
      (λ h. (h i (omega arith) (omega arith), λ j a b. h j (omega arith) (omega arith)))
      (Decides-and (p i) (every_from (suc i) n p) (d i) (decides_every (suc i) n))

  -- the same up to a place l
  pub some_to : (i l : ℕ) → Decides (some_from i (l - i) p) ((j : ℕ) × (i ≤ j) × (j < l) × P j)
  some_to i l =
      Decides-like (some_from i (l - i) p)
      (λ w. (w.0, w.1, omega (arith, w.1, w.2), w.3))
      (λ w. (w.0, w.1, omega (arith, w.1, w.2), w.3))
      (decides_some i (l - i))

  pub every_to : (i l : ℕ) → Decides (every_from i (l - i) p) ((j : ℕ) → i ≤ j → j < l → P j)
  every_to i l =
      Decides-like (every_from i (l - i) p) (λ h j a b. h j a (omega arith)) (λ h j a b. h j a (omega arith)) (decides_every i (l - i))

-- a test one place on
pub some_shift : (i n : ℕ) (p q : ℕ → Bool) → ((j : ℕ) → p (suc j) ≡ q j) → some_from (suc i) n p ≡ some_from i n q
some_shift i zero p q h = refl
some_shift i (suc n) p q h = ap₂ ◌||◌ (h i) (some_shift (suc i) n p q h)

pub every_shift : (i n : ℕ) (p q : ℕ → Bool) → ((j : ℕ) → p (suc j) ≡ q j) → every_from (suc i) n p ≡ every_from i n q
every_shift i zero p q h = refl
every_shift i (suc n) p q h = ap₂ ◌&&◌ (h i) (every_shift (suc i) n p q h)

-- the same with a count that is a difference
pub some_left : (l i : ℕ) (p q : ℕ → Bool) → ((j : ℕ) → p (suc j) ≡ q j) → some_from (suc i) (suc l - suc i) p ≡ some_from i (l - i) q
some_left l i p q h = ap (λ n. some_from (suc i) n p) (suc-sub-suc l i) ∙ some_shift i (l - i) p q h

pub every_left : (l i : ℕ) (p q : ℕ → Bool) → ((j : ℕ) → p (suc j) ≡ q j) → every_from (suc i) (suc l - suc i) p ≡ every_from i (l - i) q
every_left l i p q h = ap (λ n. every_from (suc i) n p) (suc-sub-suc l i) ∙ every_shift i (l - i) p q h

-- a test that stands in front of each can stand in front of all
pub some_and : (a : Bool) (i n : ℕ) (p : ℕ → Bool) → some_from i n (λ j. a && p j) ≡ (a && some_from i n p)
some_and true i n p = refl
some_and false i zero p = refl
some_and false i (suc n) p = some_and false (suc i) n p

pub every_or : (a : Bool) (i n : ℕ) (p : ℕ → Bool) → every_from i n (λ j. a || p j) ≡ (a || every_from i n p)
every_or false i n p = refl
every_or true i zero p = refl
every_or true i (suc n) p = every_or true (suc i) n p

pub and_swap : (a b c : Bool) → (b && (a && c)) ≡ (a && (b && c))
and_swap true true c = refl
and_swap true false c = refl
and_swap false true c = refl
and_swap false false c = refl

pub or_swap : (a b c : Bool) → (b || (a || c)) ≡ (a || (b || c))
or_swap true true c = refl
or_swap true false c = refl
or_swap false true c = refl
or_swap false false c = refl

pub and_true : (a : Bool) → (a && true) ≡ a
and_true true = refl
and_true false = refl

pub or_false : (a : Bool) → (a || false) ≡ a
or_false true = refl
or_false false = refl
