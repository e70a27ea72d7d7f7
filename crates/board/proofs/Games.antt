-- Any game: what is won is what some orchestrator forces, and images of games.
use Rattle.std.proofs.Common.{◌≡◌, ℕ, zero, suc, ◌+◌, ◌-◌, ◌<◌, ◌≤◌, Bool, true, false, cond, ◌&&◌, ◌||◌, List, [], ◌∷◌, map, Some, None, Decides, Option, sym, refl, ap, ◌∙◌, subst, ap₂, inl, inr, ⊎_elim, arith}
use Rattle.std.proofs.lemmas.Bool.{both_ways, cases_Bool, cases_eq, and_parts, and_from, or_left, or_right, or_cases, cond-true, cond-false}
use Rattle.std.specs.List.{list_all}
use Rattle.board.specs.Lists.{Member, here, there, some, any_below}
use Rattle.board.specs.Game.{Game, forced, won, rank_to, choice_to, Unfinished, begun, moved, Forces, Within, next_rank, found_by, rank_if}
use Rattle.board.proofs.Basics.{all_from, all_at, some_has, any_at, any_has, least_le, least_at, least_exact, least_before}

-- at a ranked place that is not done, the lowest choice is playable and leads to lower ranks only
pub record Leads {X : Type 0} (g : Game X) (n : ℕ) (x : X) : Type 0 where
  pub in_range_lem : choice_to g n x < g.choices
  pub playable : some (g.outcomes x (choice_to g n x)) ≡ true
  pub wins : forced g (won g (rank_to g n x - 1)) x (choice_to g n x) ≡ true
  pub lower : (y : X) → Member y (g.outcomes x (choice_to g n x)) → (won g n y ≡ true) × (rank_to g n y < rank_to g n x)

module _ {X : Type 0} (g : Game X) where
  pub won_more : (m : ℕ) (x : X) → won g m x ≡ true → won g (suc m) x ≡ true
  won_more m x e = or_left (won g m x) _ e

  pub won_later : (m n : ℕ) (x : X) → m ≤ n → won g m x ≡ true → won g n x ≡ true
  won_later m zero x l e = let s : m ≡ 0 = omega arith in subst (λ k. won g k x ≡ true) s e
  won_later m (suc n) x l e =
      ⊎_elim (λ s. subst (λ k. won g k x ≡ true) s e) (λ d. won_more n x (won_later m n x (omega arith) e)) (cases_eq m (suc n))

  pub won_done : (m : ℕ) (x : X) → g.done x ≡ true → won g m x ≡ true
  won_done m x e = won_later 0 m x (omega arith) e

  -- an orchestrator that forces success within n + m from the start wins within m where it stands after n steps
  pub forces_won : (start : X) (o : X → ℕ) (m : ℕ) (x : X) (n : ℕ) → Unfinished g start o x n → Forces g start o (n + m) → won g m x ≡ true
  forces_won start o zero x n u f = absurd (omega (arith, (f x n u).0))
  forces_won start o (suc m) x n u f =
      or_right (won g m x) _ (any_at g.choices (forced g (won g m) x) (o x) (f x n u).1 (and_from _ _ (f x n u).2 (all_from (won g m) _
      (λ y i. ⊎_elim (won_done m y) (λ e. forces_won start o m y (suc n) (moved u i e) (subst (Forces g start o) (omega arith) f)) (cases_Bool (g.done y))))))

  pub forced_won : (start : X) (o : X → ℕ) (m : ℕ) → Forces g start o m → won g m start ≡ true
  forced_won start o m f =
      let same : 0 + m ≡ m = omega arith in
      ⊎_elim (won_done m start) (λ e. forces_won start o m start 0 (begun e) (subst (Forces g start o) (sym same) f)) (cases_Bool (g.done start))

  pub rank_le : (n : ℕ) (x : X) (k : ℕ) → k ≤ n → won g k x ≡ true → rank_to g n x ≤ k
  rank_le n x k l e = least_le (suc n) (λ m. won g m x) k (omega arith) e

  pub rank_won : (n : ℕ) (x : X) → won g n x ≡ true → won g (rank_to g n x) x ≡ true
  rank_won n x e = least_at (suc n) (λ m. won g m x) n (omega arith) e

  lowest : (n : ℕ) (x : X) (r : ℕ) → rank_to g n x ≡ suc r → suc r ≤ n → won g (suc r) x ≡ true → Leads g n x
  lowest n x r s l e =
      let before : won g r x ≡ false = ⊎_elim (λ t. absurd (omega (arith, s, rank_le n x r (omega arith) t))) (λ t. t) (cases_Bool (won g r x)) in
      let down : rank_to g n x - 1 ≡ r = omega (arith, s) in
      let W : ℕ → Bool = forced g (won g (rank_to g n x - 1)) x in
      let one = any_has g.choices (forced g (won g r) x) (⊎_elim (λ t. absurd (both_ways (won g r x) before t)) (λ t. t) (or_cases (won g r x) _ e)) in
      let found : W one.0 ≡ true = subst (λ k. forced g (won g k) x one.0 ≡ true) (sym down) one.2 in
      let good = and_parts (some (g.outcomes x (choice_to g n x))) _ (least_at g.choices W one.0 one.1 found) in
      record {
        in_range_lem = omega (arith, one.1, least_le g.choices W one.0 one.1 found);
        playable = good.0;
        wins = least_at g.choices W one.0 one.1 found;
        lower = λ y i.
            let w : won g r y ≡ true = subst (λ k. won g k y ≡ true) down (all_at (won g (rank_to g n x - 1)) i good.1) in
            (won_later r n y (omega arith) w, omega (arith, s, rank_le n y r (omega arith) w));
      }

  pub leads : (n : ℕ) (x : X) → won g n x ≡ true → g.done x ≡ false → Leads g n x
  leads n x e d = go (rank_to g n x) refl (rank_le n x n (omega arith) e) (rank_won n x e)
    where
      go : (r : ℕ) → rank_to g n x ≡ r → rank_to g n x ≤ n → won g (rank_to g n x) x ≡ true → Leads g n x
      go zero s l w = absurd (both_ways (g.done x) d (subst (λ k. won g k x ≡ true) s w))
      go (suc r) s l w = lowest n x r s (omega (arith, s)) (subst (λ k. won g k x ≡ true) s w)

  -- where a play that follows the lowest choices stands
  record Going (n : ℕ) (start x : X) (t : ℕ) : Type 0 where
    winning : won g n x ≡ true
    going : g.done x ≡ false
    within : t + rank_to g n x ≤ rank_to g n start

  follows : (n : ℕ) (start : X) → won g n start ≡ true → {x : X} {t : ℕ} → Unfinished g start (choice_to g n) x t → Going n start x t
  follows n start e (begun d) = record { winning = e; going = d; within = omega arith }
  follows n start e (moved {x} {y} u j d) =
      let h = follows n start e u in
      let l = (leads n x h.winning h.going).lower y j in
      record { winning = l.0; going = d; within = omega (arith, l.1, h.within) }

  -- the lowest choices force success within the rank
  pub lowest_force : (n : ℕ) (start : X) → won g n start ≡ true → Forces g start (choice_to g n) (rank_to g n start)
  lowest_force n start e x t u =
      let h = follows n start e u in
      let l = leads n x h.winning h.going in
      let y = some_has (g.outcomes x (choice_to g n x)) l.playable in
      (omega (arith, h.within, (l.lower y.0 y.1).1), l.in_range_lem, l.playable)

  pub forces_more : (start : X) (o : X → ℕ) (m n : ℕ) → m ≤ n → Forces g start o m → Forces g start o n
  forces_more start o m n l w x t u = (omega (arith, (w x t u).0), (w x t u).1, (w x t u).2)

  -- what is won is what some orchestrator forces
  pub won_is_forced : (m : ℕ) (start : X) → Decides (won g m start) ((o : X → ℕ) × Forces g start o m)
  won_is_forced m start = (
    λ e. (choice_to g m, forces_more start (choice_to g m) (rank_to g m start) m (rank_le m start m (omega arith) e) (lowest_force m start e)),
    λ w. forced_won start w.0 m w.1,
  )

pub member_map : {X Y : Type 0} (f : X → Y) {x : X} {xs : List X} → Member x xs → Member (f x) (map f xs)
member_map f here = here
member_map f (there m) = there (member_map f m)

pub some_map : {X Y : Type 0} (f : X → Y) (xs : List X) → some (map f xs) ≡ some xs
some_map f [] = refl
some_map f (x ∷ xs) = refl

pub all_map : {X Y : Type 0} (f : X → Y) (v : Y → Bool) (w : X → Bool) (xs : List X) → ((x : X) → Member x xs → v (f x) ≡ w x) → list_all v (map f xs) ≡ list_all w xs
all_map f v w [] h = refl
all_map f v w (x ∷ xs) h = ap₂ ◌&&◌ (h x here) (all_map f v w xs (λ y m. h y (there m)))

pub any_same : (n : ℕ) (p q : ℕ → Bool) → ((c : ℕ) → c < n → p c ≡ q c) → any_below n p ≡ any_below n q
any_same zero p q h = refl
any_same (suc n) p q h = ap₂ ◌||◌ (any_same n p q (λ c l. h c (omega arith))) (h n (omega arith))

-- An image of a game: f keeps what is done and the outcomes, on a part P that no play leaves.
pub record Image {X Y : Type 0} (g : Game X) (k : Game Y) (P : X → Type 0) (f : X → Y) : Type 0 where
  pub same_choices : k.choices ≡ g.choices
  pub same_done : (x : X) → P x → k.done (f x) ≡ g.done x
  pub same_outcomes : (x : X) (c : ℕ) → P x → c < g.choices → g.done x ≡ false → k.outcomes (f x) c ≡ map f (g.outcomes x c)
  pub stays : (x : X) (c : ℕ) (y : X) → P x → c < g.choices → g.done x ≡ false → Member y (g.outcomes x c) → P y

module _ {X Y : Type 0} (g : Game X) (k : Game Y) (P : X → Type 0) (f : X → Y) (i : Image g k P f) where
  -- the same is won in the image
  pub image_won : (m : ℕ) (x : X) → P x → won k m (f x) ≡ won g m x
  image_won zero x p = i.same_done x p
  image_won (suc m) x p =
      ⊎_elim
      (λ d. won_done k (suc m) (f x) (i.same_done x p ∙ d) ∙ sym (won_done g (suc m) x d))
      (λ d.
      ap₂ ◌||◌ (image_won m x p)
      (ap (λ n. any_below n (forced k (won k m) (f x))) i.same_choices
      ∙ any_same g.choices (forced k (won k m) (f x)) (forced g (won g m) x)
      (λ c l.
      let e = i.same_outcomes x c p l d in
      ap₂ ◌&&◌ (ap (some {A = Y}) e ∙ some_map f (g.outcomes x c))
      (ap (list_all (won k m)) e ∙ all_map f (won k m) (won g m) (g.outcomes x c) (λ y n. image_won m y (i.stays x c y p l d n))))))
      (cases_Bool (g.done x))

  -- what forces success in the image does so in the game
  module _ (start : X) (o : Y → ℕ) (m : ℕ) (w : Forces k (f start) o m) where
    in_range_lem : (x : X) (t : ℕ) → Unfinished k (f start) o (f x) t → o (f x) < g.choices
    in_range_lem x t u = subst (λ n. o (f x) < n) i.same_choices (w (f x) t u).1

    unfinished_image : P start → {x : X} {t : ℕ} → Unfinished g start (λ z. o (f z)) x t → P x × Unfinished k (f start) o (f x) t × (g.done x ≡ false)
    unfinished_image p (begun d) = (p, begun (i.same_done start p ∙ d), d)
    unfinished_image p (moved {x} {y} {n} u j d) =
        let h = unfinished_image p u in
        let l = in_range_lem x n h.1 in
        let q = i.stays x (o (f x)) y h.0 l h.2 j in
        (q, moved h.1 (subst (Member (f y)) (sym (i.same_outcomes x (o (f x)) h.0 l h.2)) (member_map f j)) (i.same_done y q ∙ d), d)

    pub pull_back : P start → Forces g start (λ z. o (f z)) m
    pull_back p x t u =
        let h = unfinished_image p u in
        let l = in_range_lem x t h.1 in
        ((w (f x) t h.1).0, l, sym (some_map f (g.outcomes x (o (f x)))) ∙ ap (some {A = Y}) (sym (i.same_outcomes x (o (f x)) h.0 l h.2)) ∙ (w (f x) t h.1).2)

  -- so what is won in the image is what some orchestrator forces in the game
  pub won_is_forced_here : (m : ℕ) (start : X) → P start → Decides (won k m (f start)) ((o : X → ℕ) × Forces g start o m)
  won_is_forced_here m start p = (
    λ e. let w = (won_is_forced k m (f start)).0 e in ((λ z. w.0 (f z)), pull_back start w.0 m w.1 p),
    λ w. image_won m start p ∙ forced_won g start w.0 m w.1,
  )

-- Whole plays: xs n is what was read after n steps.
pub record Ends {X : Type 0} (g : Game X) (o : X → ℕ) (xs : ℕ → X) (m : ℕ) : Type 0 where
  pub steps : ℕ
  pub in_time : steps ≤ m
  pub succeeds : g.done (xs steps) ≡ true
  pub before : (j : ℕ) → j < steps → (g.done (xs j) ≡ false) × (some (g.outcomes (xs j) (o (xs j))) ≡ true)

module _ {X : Type 0} (g : Game X) (o : X → ℕ) (xs : ℕ → X) (m : ℕ) (f : Forces g (xs 0) o m) (play : (n : ℕ) → g.done (xs n) ≡ false → some (g.outcomes (xs n) (o (xs n))) ≡ true → Member (xs (suc n)) (g.outcomes (xs n) (o (xs n)))) where
  abbrev Open : ℕ → Type 0
  Open j = (g.done (xs j) ≡ false) × (some (g.outcomes (xs j) (o (xs j))) ≡ true)

  go_on : (k n : ℕ) → n + k ≡ m → Unfinished g (xs 0) o (xs n) n → g.done (xs n) ≡ false → ((j : ℕ) → j < n → Open j) → Ends g o xs m
  go_on zero n e u d before = absurd (omega (arith, (f (xs n) n u).0))
  go_on (suc k) n e u d before =
      let plays = (f (xs n) n u).2 in
      let so_far : (j : ℕ) → j < suc n → Open j = λ j l. ⊎_elim (λ s. subst Open (sym s) (d, plays)) (λ ne. before j (omega arith)) (cases_eq j n) in
      ⊎_elim (λ t. record { steps = suc n; in_time = omega arith; succeeds = t; before = so_far }) (λ t. go_on k (suc n) (omega arith) (moved u (play n d plays) t) t so_far) (cases_Bool (g.done (xs (suc n))))

  pub plays_end : Ends g o xs m
  plays_end =
      ⊎_elim (λ t. record { steps = 0; in_time = omega arith; succeeds = t; before = λ j l. absurd (omega arith) }) (λ t. go_on m 0 (omega arith) (begun t) t (λ j l. absurd (omega arith))) (cases_Bool (g.done (xs 0)))

-- Forcing by recursion.
module _ {X : Type 0} (g : Game X) (start : X) (o : X → ℕ) where
  forces_within_from : (m : ℕ) (x : X) (n : ℕ) → Unfinished g start o x n → Forces g start o (n + m) → Within g o m x
  forces_within_from zero x n u f = absurd (omega (arith, (f x n u).0))
  forces_within_from (suc m) x n u f =
      inr ((f x n u).1, (f x n u).2, λ y i. ⊎_elim (λ e. done_within m y e) (λ e. forces_within_from m y (suc n) (moved u i e) (subst (Forces g start o) (omega arith) f)) (cases_Bool (g.done y)))
    where
      done_within : (m : ℕ) (y : X) → g.done y ≡ true → Within g o m y
      done_within zero y e = e
      done_within (suc m) y e = inl e

  pub forces_within : (m : ℕ) → Forces g start o m → Within g o m start
  forces_within zero f = ⊎_elim (λ e. e) (λ e. absurd (omega (arith, (f start 0 (begun e)).0))) (cases_Bool (g.done start))
  forces_within (suc m) f =
      let same : 0 + suc m ≡ suc m = omega arith in
      ⊎_elim inl (λ e. forces_within_from (suc m) start 0 (begun e) (subst (Forces g start o) (sym same) f)) (cases_Bool (g.done start))

  -- what is left after n steps
  record Left (m n : ℕ) (x : X) : Type 0 where
    fewer : ℕ
    sum : n + suc fewer ≡ m
    in_range_lem : o x < g.choices
    plays : some (g.outcomes x (o x)) ≡ true
    on : (y : X) → Member y (g.outcomes x (o x)) → Within g o fewer y

  next_left : (k m n : ℕ) (x : X) → n + k ≡ m → Within g o k x → g.done x ≡ false → Left m n x
  next_left zero m n x e w d = absurd (both_ways (g.done x) d w)
  next_left (suc k) m n x e w d = ⊎_elim (λ t. absurd (both_ways (g.done x) d t)) (λ h. record { fewer = k; sum = e; in_range_lem = h.0; plays = h.1; on = h.2 }) w

  left : (m : ℕ) → Within g o m start → {x : X} {n : ℕ} → Unfinished g start o x n → Left m n x
  left m w (begun d) = next_left m m 0 start (omega arith) w d
  left m w (moved {x} {y} {n} u i d) = let h = left m w u in next_left h.fewer m (suc n) y (omega (arith, h.sum)) (h.on y i) d

  pub within_forces : (m : ℕ) → Within g o m start → Forces g start o m
  within_forces m w x n u = let h = left m w u in (omega (arith, h.sum), h.in_range_lem, h.plays)

-- Ranks as a program finds them.
module _ {X : Type 0} (g : Game X) where
  rank_same : (n : ℕ) (x : X) → won g n x ≡ true → rank_to g (suc n) x ≡ rank_to g n x
  rank_same n x e =
      let l = rank_le g n x n (omega arith) e in
      least_exact (suc (suc n)) (λ m. won g m x) (rank_to g n x) (omega arith) (rank_won g n x e) (λ j h. least_before (suc n) (λ m. won g m x) j (omega arith) h)

  rank_new : (n : ℕ) (x : X) → won g n x ≡ false → won g (suc n) x ≡ true → rank_to g (suc n) x ≡ suc n
  rank_new n x d e =
      least_exact (suc (suc n)) (λ m. won g m x) (suc n) (omega arith) e
      (λ j h. ⊎_elim (λ t. absurd (both_ways (won g n x) d (won_later g j n x (omega arith) t))) (λ t. t) (cases_Bool (won g j x)))

  pub as_found : (n : ℕ) (x : X) → found_by g n x ≡ rank_if g n x
  as_found zero x = first_found (g.done x)
    where
      first_found : (t : Bool) → ◌≡◌ {A = Option ℕ} (cond t (Some 0) None) (cond t (Some (cond t 0 1)) None)
      first_found true = refl
      first_found false = refl
  as_found (suc n) x =
      ap (λ o. next_rank o (won g (suc n) x) (suc n)) (as_found n x)
      ∙ ⊎_elim
      (λ e.
      ap (λ o. next_rank o (won g (suc n) x) (suc n)) (cond-true (won g n x) (Some (rank_to g n x)) None e)
      ∙ ap Some (sym (rank_same n x e))
      ∙ sym (cond-true (won g (suc n) x) (Some (rank_to g (suc n) x)) None (won_more g n x e)))
      (λ d.
      ap (λ o. next_rank o (won g (suc n) x) (suc n)) (cond-false (won g n x) (Some (rank_to g n x)) None d)
      ∙ ⊎_elim
      (λ e. cond-true (won g (suc n) x) (Some (suc n)) None e ∙ ap Some (sym (rank_new n x d e)) ∙ sym (cond-true (won g (suc n) x) (Some (rank_to g (suc n) x)) None e))
      (λ f. cond-false (won g (suc n) x) (Some (suc n)) None f ∙ sym (cond-false (won g (suc n) x) (Some (rank_to g (suc n) x)) None f))
      (cases_Bool (won g (suc n) x)))
      (cases_Bool (won g n x))
