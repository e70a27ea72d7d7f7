use Rattle.std.proofs.Common.{◌≡◌, ℕ, zero, suc, ◌+◌, ◌<◌, ◌≤◌, Bool, true, false, cond, eqb, ◌⊎◌, List, [], ◌∷◌, length, get_or, map, sym, refl, ap, ◌∙◌, subst, ap₂, inl, inr, ⊎_elim, arith}
use Rattle.std.proofs.lemmas.Bool.{cond_both, false≢true, eqb-true, true≢false, both_ways, cases_Bool, cases_eq, cases_lt, and_parts, and_from, or_left, or_right, or_cases}
use Rattle.std.specs.List.{list_all}
use Rattle.wire.specs.Members as elsewhere
use Rattle.wire.proofs.Members.{pigeonhole as numbers_apart}
use Rattle.board.specs.Lists.{Member, here, there, some, any_below, least, count, has, Distinct, Pigeonhole}

pub all_from : {A : Type 0} (f : A → Bool) (xs : List A) → ((x : A) → Member x xs → f x ≡ true) → list_all f xs ≡ true
all_from f [] h = refl
all_from f (x ∷ xs) h = and_from (f x) (list_all f xs) (h x here) (all_from f xs (λ y m. h y (there m)))

pub all_at : {A : Type 0} (f : A → Bool) {x : A} {xs : List A} → Member x xs → list_all f xs ≡ true → f x ≡ true
all_at f (here {x} {xs}) e = (and_parts (f x) (list_all f xs) e).0
all_at f (there {x} {y} {xs} m) e = all_at f m (and_parts (f y) (list_all f xs) e).1

pub none : {A B : Type 0} {x : A} → Member x [] → B
none m = elim m [ ]

pub first : {A : Type 0} {x y : A} {xs : List A} → Member x (y ∷ xs) → (x ≡ y) ⊎ Member x xs
first here = inl refl
first (there m) = inr m

pub some_has : {A : Type 0} (xs : List A) → some xs ≡ true → (x : A) × Member x xs
some_has [] e = absurd (true≢false (sym e))
some_has (x ∷ xs) e = (x, here)

pub any_at : (n : ℕ) (f : ℕ → Bool) (c : ℕ) → c < n → f c ≡ true → any_below n f ≡ true
any_at zero f c l e = absurd (omega arith)
any_at (suc n) f c l e =
    ⊎_elim (λ s. or_right (any_below n f) (f n) (subst (λ k. f k ≡ true) s e)) (λ d. or_left (any_below n f) (f n) (any_at n f c (omega arith) e)) (cases_eq c n)

pub any_has : (n : ℕ) (f : ℕ → Bool) → any_below n f ≡ true → (c : ℕ) × (c < n) × (f c ≡ true)
any_has zero f e = absurd (true≢false (sym e))
any_has (suc n) f e =
    ⊎_elim (λ l. let w = any_has n f l in (w.0, omega (arith, w.1), w.2)) (λ r. (n, omega arith, r)) (or_cases (any_below n f) (f n) e)

-- the least number that passes is not above one that does, and it passes
above_zero : (f : ℕ → Bool) (k : ℕ) → f 0 ≡ false → f k ≡ true → (j : ℕ) × (k ≡ suc j) × (f (suc j) ≡ true)
above_zero f zero z e = absurd (both_ways (f 0) z e)
above_zero f (suc k) z e = (k, refl, e)

pub least_le : (n : ℕ) (f : ℕ → Bool) (k : ℕ) → k < n → f k ≡ true → least n f ≤ k
least_le zero f k l e = absurd (omega arith)
least_le (suc n) f k l e =
    cond_both (f 0) 0 (suc (least n (λ j. f (suc j)))) (λ x. x ≤ k) (λ z. omega arith)
    (λ z. let w = above_zero f k z e in let ih = least_le n (λ j. f (suc j)) w.0 (omega (arith, w.1)) w.2 in omega (arith, ih, w.1))

pub least_at : (n : ℕ) (f : ℕ → Bool) (k : ℕ) → k < n → f k ≡ true → f (least n f) ≡ true
least_at zero f k l e = absurd (omega arith)
least_at (suc n) f k l e =
    cond_both (f 0) 0 (suc (least n (λ j. f (suc j)))) (λ x. f x ≡ true) (λ z. z)
    (λ z. let w = above_zero f k z e in least_at n (λ j. f (suc j)) w.0 (omega (arith, w.1)) w.2)

pub least_exact : (n : ℕ) (f : ℕ → Bool) (k : ℕ) → k < n → f k ≡ true → ((j : ℕ) → j < k → f j ≡ false) → least n f ≡ k
least_exact n f k l e before =
    ⊎_elim (λ h. absurd (both_ways (f (least n f)) (before (least n f) h) (least_at n f k l e))) (λ h. omega (arith, least_le n f k l e)) (cases_lt (least n f) k)

pub least_before : (n : ℕ) (f : ℕ → Bool) (j : ℕ) → j < n → j < least n f → f j ≡ false
least_before n f j l h = ⊎_elim (λ t. absurd (omega (arith, least_le n f j l t))) (λ t. t) (cases_Bool (f j))

-- counting
pub count_le : (n : ℕ) (f : ℕ → Bool) → count n f ≤ n
count_le zero f = omega arith
count_le (suc n) f = cond_both (f n) 1 0 (λ x. x + count n f ≤ suc n) (λ _. omega (arith, count_le n f)) (λ _. omega (arith, count_le n f))

-- where one test passes whenever the other does, it passes more often or they agree
pub count_more : (n : ℕ) (f g : ℕ → Bool) → ((k : ℕ) → f k ≡ true → g k ≡ true) → (count n f < count n g) ⊎ ((count n f ≡ count n g) × ((k : ℕ) → k < n → g k ≡ f k))
count_more zero f g h = inr (refl, λ k l. absurd (omega arith))
count_more (suc n) f g h = go (f n) refl (g n) refl (count_more n f g h)
  where
    go : (s : Bool) → f n ≡ s → (t : Bool) → g n ≡ t → (count n f < count n g) ⊎ ((count n f ≡ count n g) × ((k : ℕ) → k < n → g k ≡ f k)) → (cond s 1 0 + count n f < cond t 1 0 + count n g) ⊎ ((cond s 1 0 + count n f ≡ cond t 1 0 + count n g) × ((k : ℕ) → k < suc n → g k ≡ f k))
    go true p true q (inl l) = inl (omega arith)
    go true p true q (inr e) = inr (omega (arith, e.0), λ k l. ⊎_elim (λ s. ap g s ∙ q ∙ sym p ∙ ap f (sym s)) (λ d. e.1 k (omega arith)) (cases_eq k n))
    go true p false q w = absurd (both_ways (g n) q (h n p))
    go false p true q (inl l) = inl (omega arith)
    go false p true q (inr e) = inl (omega (arith, e.0))
    go false p false q (inl l) = inl (omega arith)
    go false p false q (inr e) = inr (omega (arith, e.0), λ k l. ⊎_elim (λ s. ap g s ∙ q ∙ sym p ∙ ap f (sym s)) (λ d. e.1 k (omega arith)) (cases_eq k n))

-- maps
pub map_back : {A B : Type 0} (f : B → A) (g : A → B) (xs : List A) → ((x : A) → f (g x) ≡ x) → map f (map g xs) ≡ xs
map_back f g [] h = refl
map_back f g (x ∷ xs) h = ap₂ ◌∷◌ (h x) (map_back f g xs h)

pub member_unmap : {A B : Type 0} (f : A → B) (xs : List A) (y : B) → Member y (map f xs) → (x : A) × Member x xs × (y ≡ f x)
member_unmap f [] y m = none m
member_unmap f (x ∷ xs) y m = ⊎_elim (λ e. (x, here, e)) (λ n. let w = member_unmap f xs y n in (w.0, there w.1, w.2)) (first m)

-- members by test
pub has_member : (q : ℕ) (xs : List ℕ) → has q xs ≡ true → Member q xs
has_member q [] e = absurd (false≢true e)
has_member q (x ∷ xs) e =
    ⊎_elim (λ t. subst (λ y. Member q (y ∷ xs)) (eqb-true q x t) here) (λ t. there (has_member q xs t)) (or_cases (eqb q x) (has q xs) e)

-- members by place
pub member_at : {A : Type 0} (xs : List A) (i : ℕ) (d : A) → i < length xs → Member (get_or xs i d) xs
member_at [] i d l = absurd (omega arith)
member_at (x ∷ xs) zero d l = here
member_at (x ∷ xs) (suc i) d l = there (member_at xs i d (omega arith))

-- membership by cases, and membership as a sum
listed : {A : Type 0} (x : A) (xs : List A) → elsewhere.Member x xs → Member x xs
listed x [] m = absurd m
listed x (y ∷ xs) m = ⊎_elim (λ e. subst (λ z. Member x (z ∷ xs)) e here) (λ k. there (listed x xs k)) m

apart : {A : Type 0} (xs : List A) → Distinct xs → elsewhere.Distinct xs
apart [] d = tt
apart (x ∷ xs) d = ((λ m. d.0 (listed x xs m)), apart xs d.1)

pub pigeonhole : Pigeonhole
pigeonhole n xs d below = numbers_apart n xs (apart xs d) (λ a m. below a (listed a xs m))
