-- Truth of x ∷ t from x and from truth of t.
use Rattle.std.proofs.Common.{◌≡◌, ℕ, suc, ◌-◌, not, ◌&&◌, ◌||◌, eqb, ltb, leb, List, [], ◌∷◌, length, sym, refl, ap, ◌∙◌, ap₂}
use lib.Dec.{leb-suc-suc, leb-zero, leb-suc-zero}
use native.Mathlib.Nat.{sub-zero}
use Rattle.wire.specs.Bounded.{some_from, every_from}
use Rattle.wire.proofs.Bounded.{some_shift, every_shift, some_and, every_or, and_swap, or_swap, and_true, or_false}
use Rattle.ltlf.specs.Formula.{Formula, eventually, always, until, release}
use Rattle.ltlf.specs.Truth.{holds, satisfied}
use Rattle.ltlf.specs.Suffix.{BySuffix, empty}
use Rattle.ltlf.proofs.Shift.{shift}

nonempty_test : (t : List ℕ) → ltb 0 (length t) ≡ not (empty t)
nonempty_test [] = leb-suc-zero 0
nonempty_test (x ∷ t) = leb-suc-suc 0 (length t) ∙ leb-zero (length t)

empty_test : (t : List ℕ) → leb (length t) 0 ≡ empty t
empty_test [] = leb-zero 0
empty_test (x ∷ t) = leb-suc-zero (length t)

module _ (x : ℕ) (t : List ℕ) where
  eventually_step : (f : Formula) → satisfied (eventually f) (x ∷ t) ≡ (satisfied f (x ∷ t) || satisfied (eventually f) t)
  eventually_step f =
      ap (λ n. some_from 0 n (holds f (x ∷ t))) (sub-zero (suc (length t)))
      ∙ ap (λ b. holds f (x ∷ t) 0 || b) (some_shift 0 (length t) _ _ (shift f x t) ∙ ap (λ n. some_from 0 n (holds f t)) (sym (sub-zero (length t))))

  always_step : (f : Formula) → satisfied (always f) (x ∷ t) ≡ (satisfied f (x ∷ t) && satisfied (always f) t)
  always_step f =
      ap (λ n. every_from 0 n (holds f (x ∷ t))) (sub-zero (suc (length t)))
      ∙ ap (λ b. holds f (x ∷ t) 0 && b) (every_shift 0 (length t) _ _ (shift f x t) ∙ ap (λ n. every_from 0 n (holds f t)) (sym (sub-zero (length t))))

  module _ (f g : Formula) where
    -- every place before j+1: the first, and every place before j of the rest
    before : (j : ℕ) → every_from 0 (suc j - 0) (holds f (x ∷ t)) ≡ (holds f (x ∷ t) 0 && every_from 0 (j - 0) (holds f t))
    before j =
        ap (λ n. every_from 0 n (holds f (x ∷ t))) (sub-zero (suc j))
        ∙ ap (λ b. holds f (x ∷ t) 0 && b) (every_shift 0 j _ _ (shift f x t) ∙ ap (λ n. every_from 0 n (holds f t)) (sym (sub-zero j)))

    earlier : (j : ℕ) → some_from 0 (suc j - 0) (holds f (x ∷ t)) ≡ (holds f (x ∷ t) 0 || some_from 0 (j - 0) (holds f t))
    earlier j =
        ap (λ n. some_from 0 n (holds f (x ∷ t))) (sub-zero (suc j))
        ∙ ap (λ b. holds f (x ∷ t) 0 || b) (some_shift 0 j _ _ (shift f x t) ∙ ap (λ n. some_from 0 n (holds f t)) (sym (sub-zero j)))

    until_step : satisfied (until f g) (x ∷ t) ≡ (satisfied g (x ∷ t) || (satisfied f (x ∷ t) && satisfied (until f g) t))
    until_step =
        ap (λ n. some_from 0 n (λ j. holds g (x ∷ t) j && every_from 0 (j - 0) (holds f (x ∷ t)))) (sub-zero (suc (length t)))
        ∙ ap₂ ◌||◌
        (ap (λ n. holds g (x ∷ t) 0 && every_from 0 n (holds f (x ∷ t))) (sub-zero 0) ∙ and_true (holds g (x ∷ t) 0))
        (some_shift 0 (length t) _ (λ j. holds f (x ∷ t) 0 && (holds g t j && every_from 0 (j - 0) (holds f t)))
        (λ j. ap₂ ◌&&◌ (shift g x t j) (before j) ∙ and_swap (holds f (x ∷ t) 0) (holds g t j) _)
        ∙ some_and (holds f (x ∷ t) 0) 0 (length t) _
        ∙ ap (λ n. holds f (x ∷ t) 0 && some_from 0 n (λ j. holds g t j && every_from 0 (j - 0) (holds f t))) (sym (sub-zero (length t))))

    release_step : satisfied (release f g) (x ∷ t) ≡ (satisfied g (x ∷ t) && (satisfied f (x ∷ t) || satisfied (release f g) t))
    release_step =
        ap (λ n. every_from 0 n (λ j. holds g (x ∷ t) j || some_from 0 (j - 0) (holds f (x ∷ t)))) (sub-zero (suc (length t)))
        ∙ ap₂ ◌&&◌
        (ap (λ n. holds g (x ∷ t) 0 || some_from 0 n (holds f (x ∷ t))) (sub-zero 0) ∙ or_false (holds g (x ∷ t) 0))
        (every_shift 0 (length t) _ (λ j. holds f (x ∷ t) 0 || (holds g t j || some_from 0 (j - 0) (holds f t)))
        (λ j. ap₂ ◌||◌ (shift g x t j) (earlier j) ∙ or_swap (holds f (x ∷ t) 0) (holds g t j) _)
        ∙ every_or (holds f (x ∷ t) 0) 0 (length t) _
        ∙ ap (λ n. holds f (x ∷ t) 0 || every_from 0 n (λ j. holds g t j || some_from 0 (j - 0) (holds f t))) (sym (sub-zero (length t))))

pub by_suffix : BySuffix
by_suffix = record {
  at_letter = λ a x t. ap (λ b. b && eqb x a) (nonempty_test (x ∷ t));
  at_next = λ f x t. ap₂ ◌&&◌ (leb-suc-suc 1 (length t) ∙ nonempty_test t) (shift f x t 0);
  at_weak_next = λ f x t. ap₂ ◌||◌ (leb-suc-suc (length t) 0 ∙ empty_test t) (shift f x t 0);
  at_eventually = λ f x t. eventually_step x t f;
  at_always = λ f x t. always_step x t f;
  at_until = λ f g x t. until_step x t f g;
  at_release = λ f g x t. release_step x t f g;
  end_letter = λ a. refl;
  end_next = λ f. refl;
  end_weak_next = λ f. refl;
  end_eventually = λ f. refl;
  end_always = λ f. refl;
  end_until = λ f g. refl;
  end_release = λ f g. refl;
}
