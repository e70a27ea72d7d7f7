-- A board by what stands at its positions.
use Rattle.std.specs.Prelude.{◌≡◌, ℕ, ◌<◌, ◌≤◌, true, List, [], length, slice_index_or}
use Rattle.std.specs.List.{All}
use Rattle.std.proofs.Common.{sym, refl, ap, subst, ⊎_elim, arith}
use Rattle.std.proofs.lemmas.List.{get_or_past}
use Rattle.std.proofs.lemmas.List.Elements.{All-nil, All-head, All-tail}
use Rattle.std.proofs.lemmas.Bool.{cases_lt, false≢true}
use Rattle.board.specs.Lists.{Member, here, there}
use Rattle.board.specs.Arena.{Arena, Lawful}
use Rattle.board.specs.Layout.{Sized}
use Rattle.board.specs.Spot.{Seen, Done, Open, is_done, choices_in, outcomes_in, past_spot, Fits}

-- by the number of positions, the number of choices, and what stands at the positions
abbrev pub arena_of : ℕ → ℕ → List Seen → Arena
arena_of n k spots = record {
  positions = n;
  choices = k;
  done = λ p. is_done (slice_index_or spots p past_spot);
  outcomes = λ p c. outcomes_in (slice_index_or spots p past_spot) c;
}

-- it is lawful where its spots fit
nothing : {B : Type 0} {x : ℕ} → Member x [] → B
nothing m = elim m [ ]

each : (P : ℕ → Type 0) (xs : List ℕ) (q : ℕ) → All P xs → Member q xs → P q
each P xs q a (here {x} {xs = ys}) = All-head P q ys a
each P xs q a (there {x} {y} {xs = ys} m) = each P ys q (All-tail P y ys a) m

spot_on : (n k : ℕ) (x : Seen) → Fits n k x → (c q : ℕ) → Member q (outcomes_in x c) → q < n
spot_on n k x h c q m =
    ⊎_elim
    (λ (l : c < length (choices_in x)). each (λ p. p < n) (outcomes_in x c) q (h.1 c [] l) m)
    (λ (l : length (choices_in x) ≤ c). nothing (subst (Member q) (get_or_past (choices_in x) c [] l) m))
    (cases_lt c (length (choices_in x)))

spot_ends : (n k : ℕ) (x : Seen) → Fits n k x → (c : ℕ) → k ≤ c → outcomes_in x c ≡ []
spot_ends n k x h c l = get_or_past (choices_in x) c [] (omega (arith, h.0))

done_ends : (x : Seen) → is_done x ≡ true → (c : ℕ) → outcomes_in x c ≡ []
done_ends Done e c = refl
done_ends (Open xs) e c = absurd (false≢true e)

module _ (n k : ℕ) (spots : List Seen) (z : Sized n k) (few : length spots ≤ n) (h : All (Fits n k) spots) where
  abbrev at : ℕ → Seen
  at p = slice_index_or spots p past_spot

  -- what stands past the end fits too
  at_fits : (p : ℕ) → Fits n k (at p)
  at_fits p =
      ⊎_elim
      (λ (l : p < length spots). h p past_spot l)
      (λ (l : length spots ≤ p). subst (Fits n k) (sym (get_or_past spots p past_spot l)) (omega arith, All-nil (All (λ q. q < n))))
      (cases_lt p (length spots))

  pub lawful_of : Lawful (arena_of n k spots)
  lawful_of = record {
    a_position = z.0;
    few_positions = z.1;
    a_choice = z.2;
    few_choices = z.3;
    on_board = λ p c q m. spot_on n k (at p) (at_fits p) c q m;
    done_ends = λ p c e. done_ends (at p) e c;
    beyond_done = λ p l. ap is_done (get_or_past spots p past_spot (omega arith));
    beyond = λ p c l. ap (λ x. outcomes_in x c) (get_or_past spots p past_spot (omega arith));
    beyond_choices = λ p c l. spot_ends n k (at p) (at_fits p) c l;
  }
