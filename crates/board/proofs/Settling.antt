-- Rounds find what they should, and once one adds nothing every rank is found.
use Rattle.std.proofs.Common.{◌≡◌, ℕ, suc, ◌+◌, ◌≤◌, Bool, true, false, cond, ◌||◌, List, get_or, replicate, is_some, Some, None, Option, sym, refl, ap, ◌∙◌, ⊎_elim, add-one, arith}
use mathlib.Core.Path.{fun_ext}
use Rattle.std.proofs.lemmas.List.{get_or_past, get_or-replicate, length-replicate}
use Rattle.std.proofs.lemmas.Bool.{cases_Bool, cases_lt, cond-true, cond-false, lt-ltb}
use Rattle.board.specs.Lists.{any_below}
use Rattle.board.specs.Arena.{Arena}
use Rattle.board.specs.Game.{forced, next_rank, found_by, rank_if, rank_to}
use Rattle.board.specs.Ranks.{moves, won}
use Rattle.board.specs.Rounds.{under, held, raised, Found, Settled}
use Rattle.board.proofs.Games.{as_found, rank_le, rank_won}
use Rattle.board.proofs.Ranking.{stays}
use Rattle.board.proofs.Basics.{least_exact, least_before}

-- the ranks before the first round
abbrev pub done_first : Arena → ℕ → Option ℕ
done_first b p = found_by (moves b) 0 p

pub is_done : (b : Arena) (p : ℕ) → b.done p ≡ true → Some 0 ≡ done_first b p
is_done b p e = sym (cond-true (b.done p) (Some 0) None e)

pub not_done : (b : Arena) (p n : ℕ) → b.done p ≡ false → get_or (replicate n None) p None ≡ done_first b p
not_done b p n e = ⊎_elim (λ l. get_or-replicate n p None None l) (λ l. get_or_past (replicate n None) p None (omega (arith, l, length-replicate {A = Option ℕ} n None))) (cases_lt p n) ∙ sym (cond-false (b.done p) (Some 0) None e)

-- what is found up to m says what is won within m
module _ (b : Arena) (m : ℕ) where
  at_rank : (p : ℕ) → under (suc m) (rank_if (moves b) m p) ≡ won b m p
  at_rank p =
      ⊎_elim
      (λ (e : won b m p ≡ true). ap (under (suc m)) (cond-true (won b m p) _ None e) ∙ lt-ltb _ _ (omega (arith, rank_le (moves b) m p m (omega arith) e)) ∙ sym e)
      (λ (e : won b m p ≡ false). ap (under (suc m)) (cond-false (won b m p) (Some (rank_to (moves b) m p)) None e) ∙ sym e)
      (cases_Bool (won b m p))

  some_rank : (p : ℕ) → is_some (rank_if (moves b) m p) ≡ won b m p
  some_rank p =
      ⊎_elim
      (λ (e : won b m p ≡ true). ap (is_some {T = ℕ}) (cond-true (won b m p) _ None e) ∙ sym e)
      (λ (e : won b m p ≡ false). ap (is_some {T = ℕ}) (cond-false (won b m p) (Some (rank_to (moves b) m p)) None e) ∙ sym e)
      (cases_Bool (won b m p))

  module _ (ranks : List (Option ℕ)) (h : Found b m ranks) where
    held_won : held ranks (suc m) ≡ won b m
    held_won = fun_ext (λ p. ap (under (suc m)) (h p ∙ as_found (moves b) m p) ∙ at_rank p)

    -- one more round
    pub found_more : (after : List (Option ℕ)) → ((p : ℕ) → get_or after p None ≡ raised b ranks (suc m) p) → Found b (suc m) after
    found_more after e p =
        e p
        ∙ ap (λ f. next_rank (get_or ranks p None) (any_below b.choices (forced (moves b) f p)) (suc m)) held_won
        ∙ ap (λ o. next_rank o (any_below b.choices (forced (moves b) (won b m) p)) (suc m)) (h p ∙ as_found (moves b) m p)
        ∙ next (won b m p) (rank_to (moves b) m p) (any_below b.choices (forced (moves b) (won b m) p))
        ∙ sym (ap (λ o. next_rank o (won b (suc m) p) (suc m)) (as_found (moves b) m p))
      where
        next : (t : Bool) (r : ℕ) (w : Bool) → next_rank (cond t (Some r) None) w (suc m) ≡ next_rank (cond t (Some r) None) (t || w) (suc m)
        next true r w = refl
        next false r w = refl

    pub found_all : m ≡ b.positions → Settled b ranks
    found_all e p = h p ∙ as_found (moves b) m p ∙ ap (λ n. rank_if (moves b) n p) e

-- no later rank than the last one that was found
later : (b : Arena) (m n p : ℕ) → m ≤ n → won b n p ≡ won b m p → rank_if (moves b) m p ≡ rank_if (moves b) n p
later b m n p l e =
    ⊎_elim
    (λ (t : won b m p ≡ true).
    cond-true (won b m p) _ None t
    ∙ ap Some (sym (least_exact (suc n) (λ k. won b k p) (rank_to (moves b) m p) (omega (arith, rank_le (moves b) m p m (omega arith) t)) (rank_won (moves b) m p t) (λ j k. least_before (suc m) (λ i. won b i p) j (omega (arith, rank_le (moves b) m p m (omega arith) t)) k)))
    ∙ sym (cond-true (won b n p) _ None (e ∙ t)))
    (λ (t : won b m p ≡ false). cond-false (won b m p) (Some (rank_to (moves b) m p)) None t ∙ sym (cond-false (won b n p) (Some (rank_to (moves b) n p)) None (e ∙ t)))
    (cases_Bool (won b m p))

-- a round that adds nothing is the last that counts
pub found_stop : (b : Arena) (m : ℕ) (ranks : List (Option ℕ)) → m ≤ b.positions → Found b m ranks → Found b (suc m) ranks → Settled b ranks
found_stop b m ranks l h k p =
    let same : won b (suc m) ≡ won b m = fun_ext (λ q. sym (some_rank b (suc m) q) ∙ ap is_some (sym (as_found (moves b) (suc m) q) ∙ sym (k q) ∙ h q ∙ as_found (moves b) m q) ∙ some_rank b m q) in
    h p ∙ as_found (moves b) m p ∙ later b m b.positions p l (ap (λ f. f p) (stays b m same b.positions l))

-- the same at m + 1, as the code counts
module _ (b : Arena) (m : ℕ) (ranks after : List (Option ℕ)) (h : Found b m ranks) (e : (p : ℕ) → get_or after p None ≡ raised b ranks (m + 1) p) where
  found_here : Found b (suc m) after
  found_here = found_more b m ranks h after (λ p. e p ∙ ap (λ n. raised b ranks n p) (add-one m))

  pub found_next : Found b (m + 1) after
  found_next p = found_here p ∙ ap (λ n. found_by (moves b) n p) (sym (add-one m))

  pub found_still : m ≤ b.positions → after ≡ ranks → Settled b after
  found_still l s =
      let k : Found b (suc m) ranks = λ p. ap (λ rs. get_or rs p None) (sym s) ∙ found_here p in
      λ p. ap (λ rs. get_or rs p None) s ∙ found_stop b m ranks l h k p
