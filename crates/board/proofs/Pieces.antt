-- The bytes of several things one after another.
use Rattle.std.proofs.Common.{◌≡◌, ℕ, zero, suc, ◌<◌, List, [], ◌∷◌, ◌++◌, map, length, get_or, sym, refl, ap, ◌∙◌, ap₂, arith}
use Rattle.std.specs.List.{flat_map, range_with_len}
use Rattle.std.proofs.lemmas.List.FromFn.{length-map-range_with_len, get_or-map-range_with_len}
use Rattle.board.specs.ChartFile.{pieces}

pub pieces_list : {A : Type 0} (f : A → List ℕ) (d : A) (xs : List A) → pieces (λ i. f (get_or xs i d)) (length xs) ≡ flat_map f xs
pieces_list f d [] = refl
pieces_list f d (x ∷ xs) = ap (λ ys. f x ++ ys) (pieces_list f d xs)

pub pieces_same : (f g : ℕ → List ℕ) (n : ℕ) → ((i : ℕ) → i < n → f i ≡ g i) → pieces f n ≡ pieces g n
pieces_same f g zero h = refl
pieces_same f g (suc n) h = ap₂ ◌++◌ (h 0 (omega arith)) (pieces_same (λ i. f (suc i)) (λ i. g (suc i)) n (λ i l. h (suc i) (omega arith)))

-- a list made place by place
abbrev pub made : {A : Type 0} → (ℕ → A) → ℕ → List A
made f n = map f (range_with_len 0 n)

pub made_at : {A : Type 0} (f : ℕ → A) (n i : ℕ) (d : A) → i < n → get_or (made f n) i d ≡ f i
made_at f n i d l = get_or-map-range_with_len f 0 n i i d l (omega arith)

pub pieces_made : {A : Type 0} (g : A → List ℕ) (d : A) (f : ℕ → A) (n : ℕ) → pieces (λ i. g (f i)) n ≡ flat_map g (made f n)
pieces_made g d f n =
    pieces_same _ (λ i. g (get_or (made f n) i d)) n (λ i l. ap g (sym (made_at f n i d l)))
    ∙ ap (pieces (λ i. g (get_or (made f n) i d))) (sym (length-map-range_with_len f 0 n))
    ∙ pieces_list g d (made f n)
