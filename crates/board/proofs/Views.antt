-- What a chart shows of each position, and the bytes of it.
use Rattle.std.proofs.Common.{◌≡◌, ℕ, zero, suc, ◌+◌, ◌<◌, ◌≤◌, Bool, true, false, cond, List, [], ◌∷◌, ◌++◌, length, get_or, replicate, sym, refl, ap, ◌∙◌, subst, ap₂, arith}
use Rattle.std.specs.List.{All, flat_map}
use Rattle.std.proofs.lemmas.List.{nil_from_length}
use Rattle.std.proofs.lemmas.List.Elements.{All-nil, All-cons}
use Rattle.std.proofs.lemmas.List.FromFn.{length-map-range_with_len}
use Rattle.wire.specs.Number.{groups}
use Rattle.board.specs.Arena.{Arena}
use Rattle.board.specs.Spot.{Seen, Done, Open, is_done, past_spot, outcomes_in, Fits}
use Rattle.board.specs.Spots.{arena_of}
use Rattle.board.specs.ChartFile.{pieces, choice_bytes, place_bytes, file_bytes, Rising, Charted, Same}
use Rattle.board.proofs.Pieces.{made, made_at, pieces_list, pieces_same, pieces_made}

-- the choices of a position in its file: at a done one k that have no outcomes
abbrev pub listed : ℕ → Seen → List (List ℕ)
listed k Done = replicate k []
listed k (Open xs) = xs

abbrev pub spot_bytes : ℕ → Seen → List ℕ
spot_bytes k v = groups (cond (is_done v) 1 0) ++ flat_map choice_bytes (listed k v)

-- the outcomes of a choice among n positions
abbrev pub GoodChoice : ℕ → List ℕ → Type 0
GoodChoice n ws = (length ws ≤ 8) × Rising 0 n ws

abbrev pub Good : ℕ → ℕ → Seen → Type 0
Good n k Done = Unit {0}
Good n k (Open xs) = (length xs ≡ k) × All (GoodChoice n) xs

-- a good position fits
rising_on : (n low : ℕ) (ws : List ℕ) → Rising low n ws → All (λ q. q < n) ws
rising_on n low [] r = All-nil (λ q. q < n)
rising_on n low (w ∷ ws) r = All-cons (λ q. q < n) w ws r.1 (rising_on n (w + 1) ws r.2)

pub good_fits : (n k : ℕ) (v : Seen) → Good n k v → Fits n k v
good_fits n k Done g = (omega arith, All-nil (All (λ q. q < n)))
good_fits n k (Open xs) g = (omega (arith, g.0), λ c d l. rising_on n 0 (get_or xs c d) (g.1 c d l).1)

-- its choices
few_outcomes : (n k : ℕ) (v : Seen) (c : ℕ) → Good n k v → c < k → length (outcomes_in v c) ≤ cond (is_done v) 0 8
few_outcomes n k Done c g l = omega arith
few_outcomes n k (Open xs) c g l = (g.1 c [] (omega (arith, g.0))).0

rising : (n k : ℕ) (v : Seen) (c : ℕ) → Good n k v → c < k → Rising 0 n (outcomes_in v c)
rising n k Done c g l = tt
rising n k (Open xs) c g l = (g.1 c [] (omega (arith, g.0))).1

no_pieces : (k : ℕ) → pieces (λ c. choice_bytes []) k ≡ flat_map choice_bytes (replicate k [])
no_pieces zero = refl
no_pieces (suc k) = ap (λ ys. choice_bytes [] ++ ys) (no_pieces k)

choices_bytes : (n k : ℕ) (v : Seen) → Good n k v → pieces (λ c. choice_bytes (outcomes_in v c)) k ≡ flat_map choice_bytes (listed k v)
choices_bytes n k Done g = no_pieces k
choices_bytes n k (Open xs) g = ap (pieces (λ c. choice_bytes (get_or xs c []))) (sym g.0) ∙ pieces_list choice_bytes [] xs

-- all positions
module _ (n k : ℕ) (vs : List Seen) (g : All (Good n k) vs) (many : length vs ≡ n) where
  pub spots_file : file_bytes (arena_of n k vs) ≡ groups n ++ (groups k ++ flat_map (spot_bytes k) vs)
  spots_file =
      ap (λ bs. groups n ++ (groups k ++ bs))
      (pieces_same (place_bytes (arena_of n k vs)) (λ p. spot_bytes k (get_or vs p past_spot)) n
      (λ p l. ap (λ bs. groups (cond (is_done (get_or vs p past_spot)) 1 0) ++ bs) (choices_bytes n k (get_or vs p past_spot) (g p past_spot (omega arith))))
      ∙ ap (pieces (λ p. spot_bytes k (get_or vs p past_spot))) (sym many)
      ∙ pieces_list (spot_bytes k) past_spot vs)

  pub spots_charted : 1 ≤ n → n ≤ 256 → 1 ≤ k → k ≤ 8 → Charted (arena_of n k vs)
  spots_charted a b c d = record {
    a_position = a;
    few_positions = b;
    a_choice = c;
    few_choices = d;
    few_outcomes = λ p q l m. few_outcomes n k (get_or vs p past_spot) q (g p past_spot (omega arith)) m;
    rising = λ p q l m. rising n k (get_or vs p past_spot) q (g p past_spot (omega arith)) m;
  }

All-made : {A : Type 0} (P : A → Type 0) (f : ℕ → A) (n : ℕ) → ((i : ℕ) → i < n → P (f i)) → All P (made f n)
All-made P f n h i d l = let m = length-map-range_with_len f 0 n in let k : i < n = omega arith in subst P (sym (made_at f n i d k)) (h i k)

-- what a board shows at a position
abbrev shown : Bool → List (List ℕ) → Seen
shown true xs = Done
shown false xs = Open xs

shown_done : (d : Bool) (xs : List (List ℕ)) → is_done (shown d xs) ≡ d
shown_done true xs = refl
shown_done false xs = refl

module _ (n k : ℕ) (f : ℕ → List ℕ) where
  shown_good : (d : Bool) → ((c : ℕ) → c < k → length (f c) ≤ cond d 0 8) → ((c : ℕ) → c < k → Rising 0 n (f c)) → Good n k (shown d (made f k))
  shown_good true few rises = tt
  shown_good false few rises = (length-map-range_with_len f 0 k, All-made (GoodChoice n) f k (λ c l. (few c l, rises c l)))

  shown_outcomes : (d : Bool) → ((c : ℕ) → c < k → length (f c) ≤ cond d 0 8) → (c : ℕ) → c < k → outcomes_in (shown d (made f k)) c ≡ f c
  shown_outcomes true few c l = sym (nil_from_length (f c) (omega (arith, few c l)))
  shown_outcomes false few c l = made_at f k c [] l

  shown_bytes : (d : Bool) → ((c : ℕ) → c < k → length (f c) ≤ cond d 0 8) → pieces (λ c. choice_bytes (f c)) k ≡ flat_map choice_bytes (listed k (shown d (made f k)))
  shown_bytes true few = pieces_same _ (λ c. choice_bytes []) k (λ c l. ap choice_bytes (nil_from_length (f c) (omega (arith, few c l)))) ∙ no_pieces k
  shown_bytes false few = pieces_made choice_bytes [] f k

-- the positions of a board
module _ (b : Arena) (ok : Charted b) where
  abbrev view : ℕ → Seen
  view p = shown (b.done p) (made (b.outcomes p) b.choices)

  abbrev pub views : List Seen
  views = made view b.positions

  pub views_good : All (Good b.positions b.choices) views
  views_good = All-made (Good b.positions b.choices) view b.positions (λ p l. shown_good b.positions b.choices (b.outcomes p) (b.done p) (λ c m. ok.few_outcomes p c l m) (λ c m. ok.rising p c l m))

  pub views_bytes : file_bytes b ≡ groups b.positions ++ (groups b.choices ++ flat_map (spot_bytes b.choices) views)
  views_bytes =
      ap (λ bs. groups b.positions ++ (groups b.choices ++ bs))
      (pieces_same (place_bytes b) (λ p. spot_bytes b.choices (view p)) b.positions
      (λ p l. ap₂ (λ d bs. groups (cond d 1 0) ++ bs) (sym (shown_done (b.done p) (made (b.outcomes p) b.choices))) (shown_bytes b.positions b.choices (b.outcomes p) (b.done p) (λ c m. ok.few_outcomes p c l m)))
      ∙ pieces_made (spot_bytes b.choices) past_spot view b.positions)

  pub views_same : Same b (arena_of b.positions b.choices views)
  views_same = record {
    positions = refl;
    choices = refl;
    done = λ p l. sym (ap is_done (made_at view b.positions p past_spot l) ∙ shown_done (b.done p) (made (b.outcomes p) b.choices));
    outcomes = λ p c l m.
        sym (ap (λ v. outcomes_in v c) (made_at view b.positions p past_spot l) ∙ shown_outcomes b.positions b.choices (b.outcomes p) (b.done p) (λ q h. ok.few_outcomes p q l h) c m);
  }
