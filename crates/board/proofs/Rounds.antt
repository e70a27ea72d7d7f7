-- The first choice that passes, and the steps of one round over the ranks.
use Rattle.std.proofs.Common.{◌≡◌, ℕ, zero, suc, ◌+◌, ◌<◌, ◌≤◌, Bool, true, false, cond, ◌&&◌, ◌||◌, ◌≢◌, List, length, get_or, set, is_some, unwrap_or, Some, None, Option, MatchOption, sym, refl, ap, ◌∙◌, ap₂, ⊎_elim, arith, get_or-set_other, get_or-set_same}
use mathlib.Core.Path.{fun_ext}
use Rattle.std.specs.List.{find, list_all, range_with_len}
use Rattle.std.proofs.lemmas.List.{set-get_or, length-set}
use Rattle.std.proofs.lemmas.Bool.{both_ways, false≢true, cases_eq, cases_lt, cond-true, cond-false, le-ltb}
use Rattle.board.specs.Lists.{some, any_below, least}
use Rattle.board.specs.Arena.{Arena, Lawful}
use Rattle.board.specs.Game.{forced, next_rank}
use Rattle.board.specs.Ranks.{moves}
use Rattle.board.specs.Rounds.{under, held, wins_by, winnable, raised}
use Rattle.board.proofs.Basics.{any_at, least_exact}

-- the first number from a to a + n that passes, if there is one
abbrev Below : (ℕ → Bool) → ℕ → ℕ → Option ℕ → Type 0
Below f a n r = MatchOption r ((k : ℕ) → a ≤ k → k < a + n → f k ≡ false) (λ c. (c < a + n) × (f c ≡ true) × ((k : ℕ) → a ≤ k → k < c → f k ≡ false))

first_from : (f : ℕ → Bool) (a n : ℕ) → Below f a n (find f (range_with_len a n))
first_from f a zero = λ k l h. absurd (omega arith)
first_from f a (suc n) = go (f a) refl (find f (range_with_len (a + 1) n)) (first_from f (a + 1) n)
  where
    later : (c : ℕ) → f a ≡ false → ((k : ℕ) → a + 1 ≤ k → k < c → f k ≡ false) → (k : ℕ) → a ≤ k → k < c → f k ≡ false
    later c e h k l m = ⊎_elim (λ s. ap f s ∙ e) (λ d. h k (omega arith) m) (cases_eq k a)

    go : (t : Bool) → f a ≡ t → (r : Option ℕ) → Below f (a + 1) n r → Below f a (suc n) (cond t (Some a) r)
    go true e r h = (omega arith, e, λ k l m. absurd (omega arith))
    go false e None h = λ k l m. later (a + suc n) e (λ j i u. h j i (omega arith)) k l m
    go false e (Some c) h = (omega (arith, h.0), h.1, later c e h.2)

none_any : (f : ℕ → Bool) (n : ℕ) → ((c : ℕ) → c < n → f c ≡ false) → any_below n f ≡ false
none_any f zero h = refl
none_any f (suc n) h = ap₂ ◌||◌ (none_any f n (λ c l. h c (omega arith))) (h n (omega arith))

-- some choice passes just where a first one does
pub found_any : (f : ℕ → Bool) (n : ℕ) → any_below n f ≡ is_some (find f (range_with_len 0 n))
found_any f n = go (find f (range_with_len 0 n)) (first_from f 0 n)
  where
    go : (r : Option ℕ) → Below f 0 n r → any_below n f ≡ is_some r
    go None h = none_any f n (λ c l. h c (omega arith) (omega arith))
    go (Some c) h = any_at n f c (omega (arith, h.0)) h.1

-- it is the least that does; where none does, 0 may be taken
pub found_least : (f : ℕ → Bool) (n c : ℕ) → c < n → f c ≡ true → unwrap_or (find f (range_with_len 0 n)) 0 ≡ least n f
found_least f n c l e = go (find f (range_with_len 0 n)) (first_from f 0 n)
  where
    go : (r : Option ℕ) → Below f 0 n r → unwrap_or r 0 ≡ least n f
    go None h = absurd (both_ways (f c) (h c (omega arith) (omega arith)) e)
    go (Some k) h = sym (least_exact n f k (omega (arith, h.0)) h.1 (λ j i. h.2 j (omega arith) i))

pub found_none : (f : ℕ → Bool) (n : ℕ) → ((c : ℕ) → f c ≡ false) → unwrap_or (find f (range_with_len 0 n)) 0 ≡ 0
found_none f n e = go (find f (range_with_len 0 n)) (first_from f 0 n)
  where
    go : (r : Option ℕ) → Below f 0 n r → unwrap_or r 0 ≡ 0
    go None h = refl
    go (Some k) h = absurd (both_ways (f k) (e k) h.1)

pub found_most : (f : ℕ → Bool) (n : ℕ) → unwrap_or (find f (range_with_len 0 n)) 0 ≤ n
found_most f n = go (find f (range_with_len 0 n)) (first_from f 0 n)
  where
    go : (r : Option ℕ) → Below f 0 n r → unwrap_or r 0 ≤ n
    go None h = omega arith
    go (Some k) h = omega (arith, h.0)

-- One position: what is found stands, and what is not winnable stays without a rank.
pub stays : (b : Arena) (ranks : List (Option ℕ)) (m p : ℕ) → raised b ranks m p ≡ get_or ranks p None → ranks ≡ set ranks p (raised b ranks m p)
stays b ranks m p e = sym (ap (set ranks p) e ∙ set-get_or ranks p None)

pub is_new : (o : Option ℕ) (w : Bool) (m : ℕ) → is_some o ≡ false → w ≡ true → next_rank o w m ≡ Some m
is_new (Some r) w m e t = absurd (false≢true (sym e))
is_new None w m e t = cond-true w _ _ t

pub stands_found : (o : Option ℕ) (w : Bool) (m : ℕ) → is_some o ≡ true → next_rank o w m ≡ o
stands_found (Some r) w m e = refl
stands_found None w m e = absurd (false≢true e)

pub stands_lost : (o : Option ℕ) (w : Bool) (m : ℕ) → w ≡ false → next_rank o w m ≡ o
stands_lost (Some r) w m e = refl
stands_lost None w m e = cond-false w _ _ e

-- ranks that are f below p, and as they were from p on
pub record Halfway (f : ℕ → Option ℕ) (old : List (Option ℕ)) (p : ℕ) (cur : List (Option ℕ)) : Type 0 where
  pub below : (x : ℕ) → x < p → get_or cur x None ≡ f x
  pub above : (x : ℕ) → p ≤ x → get_or cur x None ≡ get_or old x None
  pub long : length cur ≡ length old

module _ (f : ℕ → Option ℕ) (old : List (Option ℕ)) where
  pub halfway_set : (p : ℕ) (cur : List (Option ℕ)) (o : Option ℕ) → Halfway f old p cur → p < length old → o ≡ f p → Halfway f old (p + 1) (set cur p o)
  halfway_set p cur o h l e = record {
    below = λ x k. ⊎_elim
        (λ (s : x ≡ p). ap (λ y. get_or (set cur p o) y None) s ∙ get_or-set_same cur p o None (omega (arith, l, h.long)) ∙ e ∙ ap f (sym s))
        (λ (d : x ≡ p → ⊥). get_or-set_other cur p x o None d ∙ h.below x (omega arith))
        (cases_eq x p);
    above = λ x k. let d : x ≢ p = omega arith in get_or-set_other cur p x o None d ∙ h.above x (omega arith);
    long = length-set cur p o ∙ h.long;
  }

  pub halfway_skip : (p : ℕ) (cur : List (Option ℕ)) → Halfway f old p cur → get_or old p None ≡ f p → Halfway f old (p + 1) cur
  halfway_skip p cur h e = record {
    below = λ x k. ⊎_elim (λ (s : x ≡ p). h.above x (omega arith) ∙ ap (λ y. get_or old y None) s ∙ e ∙ ap f (sym s)) (λ (d : x ≡ p → ⊥). h.below x (omega arith)) (cases_eq x p);
    above = λ x k. h.above x (omega arith);
    long = h.long;
  }

  pub halfway_all : (p : ℕ) (cur : List (Option ℕ)) → Halfway f old p cur → ((x : ℕ) → p ≤ x → get_or old x None ≡ f x) → (x : ℕ) → get_or cur x None ≡ f x
  halfway_all p cur h beyond x = ⊎_elim (λ l. h.below x l) (λ l. h.above x l ∙ beyond x l) (cases_lt x p)

-- What one round raises depends on the ranks before the round alone.
under_next : (o : Option ℕ) (w : Bool) (m : ℕ) → under m (next_rank o w m) ≡ under m o
under_next (Some r) w m = refl
under_next None true m = le-ltb m m (omega arith)
under_next None false m = refl

module _ (b : Arena) (old cur : List (Option ℕ)) (m p : ℕ) (h : Halfway (raised b old m) old p cur) where
  held_same : held cur m ≡ held old m
  held_same = fun_ext λ x.
      ⊎_elim (λ (lt : x < p). ap (under m) (h.below x lt) ∙ under_next (get_or old x None) (winnable b old m x) m)
      (λ (ge : p ≤ x). ap (under m) (h.above x ge))
      (cases_lt x p)

  pub raised_same : raised b cur m p ≡ raised b old m p
  raised_same = ap (λ o. next_rank o (winnable b cur m p) m) (h.above p (omega arith)) ∙ ap (λ f. next_rank (get_or old p None) (any_below b.choices (forced (moves b) f p)) m) held_same

-- off the board no position is raised
pub not_raised : (b : Arena) → Lawful b → (ranks : List (Option ℕ)) (m p : ℕ) → b.positions ≤ p → get_or ranks p None ≡ raised b ranks m p
not_raised b ok ranks m p l =
    let lost : winnable b ranks m p ≡ false = none_any (wins_by b ranks m p) b.choices (λ c _. ap (λ (xs : List ℕ). some xs && list_all (held ranks m) xs) (ok.beyond p c l)) in
    sym (stands_lost (get_or ranks p None) (winnable b ranks m p) m lost)
