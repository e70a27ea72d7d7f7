-- Rows from settled ranks.
use Rattle.std.proofs.Common.{◌≡◌, ℕ, zero, suc, ◌+◌, ◌-◌, ◌<◌, ◌≤◌, Bool, true, false, cond, ◌&&◌, List, [], ◌∷◌, get_or, is_some, unwrap_or, Some, None, Ok, Err, Option, Result, sym, refl, ap, ◌∙◌, subst, inl, inr, ⊎_elim, add-one, arith}
use mathlib.Core.Path.{fun_ext}
use Rattle.std.specs.List.{cons_option, filter_map, find, list_all, range_with_len}
use Rattle.std.proofs.lemmas.Bool.{both_ways, false≢true, cases_Bool, cases_eq, cases_lt, cond-true, cond-false, lt-ltb, le-ltb}
use Rattle.wire.specs.declared.refusal.Refusal.{Refusal}
use Rattle.board.specs.declared.table.Row.{Row}
use Rattle.board.specs.Lists.{Member, some}
use Rattle.board.specs.Arena.{Arena, Lawful}
use Rattle.board.specs.Game.{forced}
use Rattle.board.specs.Ranks.{moves, won, ranked, rank, choice}
use Rattle.board.specs.Rounds.{under, held, wins_by, Settled}
use Rattle.board.specs.Table.{Accepted, rank_in, row, row_if, keep, rows_from, solution}
use Rattle.board.specs.Solving.{RowsLaw, Solved, SolveLaw}
use Rattle.board.proofs.Basics.{least_before}
use Rattle.board.proofs.Rounds.{found_least, found_none}
use Rattle.board.proofs.Games.{leads, rank_le, rank_won, won_later}
use Rattle.board.proofs.Ranking.{won_beyond, rounds_end, rank_is_least, ranked_is_forced, hopeless}
use Rattle.board.proofs.Tables.{zero_done, solution_is_ranked, solution_rank, solution_is_accepted, accepted_forces}

-- nothing has a rank below 0
never : (o : Option ℕ) → under 0 o ≡ false
never None = refl
never (Some r) = le-ltb r 0 (omega arith)

no_win : (ranks : List (Option ℕ)) (xs : List ℕ) → (some xs && list_all (held ranks 0) xs) ≡ false
no_win ranks [] = refl
no_win ranks (x ∷ xs) = ap (λ t. t && list_all (held ranks 0) xs) (never (get_or ranks x None))

-- what a settled rank says
in_some : (t : Bool) (x r : ℕ) → cond t (Some x) None ≡ Some r → (t ≡ true) × (x ≡ r)
in_some true x r e = (refl, cc)
in_some false x r e = absurd (false≢true (ap is_some e))

module _ (b : Arena) (ranks : List (Option ℕ)) (h : Settled b ranks) where
  pub is_won : (p r : ℕ) → get_or ranks p None ≡ Some r → (ranked b p ≡ true) × (rank b p ≡ r)
  is_won p r e = in_some (ranked b p) (rank b p) r (sym (h p) ∙ e)

  -- ranks below m + 1 are won within m
  under_won : (m p : ℕ) → m ≤ b.positions → held ranks (suc m) p ≡ won b m p
  under_won m p l =
      ap (under (suc m)) (h p)
      ∙ ⊎_elim
      (λ (e : ranked b p ≡ true).
      ap (under (suc m)) (cond-true (ranked b p) (Some (rank b p)) None e)
      ∙ ⊎_elim
      (λ (k : rank b p < suc m). lt-ltb (rank b p) (suc m) k ∙ sym (won_later (moves b) (rank b p) m p (omega arith) (rank_won (moves b) b.positions p e)))
      (λ (k : suc m ≤ rank b p). le-ltb (rank b p) (suc m) k ∙ sym (⊎_elim (λ t. absurd (omega (arith, rank_le (moves b) b.positions p m l t))) (λ t. t) (cases_Bool (won b m p))))
      (cases_lt (rank b p) (suc m)))
      (λ (e : ranked b p ≡ false).
      ap (under (suc m)) (cond-false (ranked b p) (Some (rank b p)) None e)
      ∙ sym (⊎_elim (λ t. absurd (both_ways (ranked b p) e (won_later (moves b) m b.positions p l t))) (λ t. t) (cases_Bool (won b m p))))
      (cases_Bool (ranked b p))

  held_before : (p : ℕ) → ranked b p ≡ true → 0 < rank b p → held ranks (rank b p) ≡ won b (rank b p - 1)
  held_before p e l =
      let up : rank b p ≡ suc (rank b p - 1) = omega arith in
      let k : rank b p - 1 ≤ b.positions = omega (arith, rank_le (moves b) b.positions p b.positions (omega arith) e) in
      ap (held ranks) up ∙ fun_ext (λ q. under_won (rank b p - 1) q k)

  -- the choice of a row: the lowest that wins, and 0 at rank 0, where none does
  abbrev pub choice_at : ℕ → ℕ → ℕ
  choice_at p r = unwrap_or (find (wins_by b ranks r p) (range_with_len 0 b.choices)) 0

  -- nothing wins within no steps
  pub none_at : (p : ℕ) → choice_at p 0 ≡ 0
  none_at p = found_none (wins_by b ranks 0 p) b.choices (λ c. no_win ranks (b.outcomes p c))

  chosen : (p : ℕ) → ranked b p ≡ true → choice_at p (rank b p) ≡ cond (b.done p) 0 (choice b p)
  chosen p e =
      ⊎_elim
      (λ (d : b.done p ≡ true). ap (choice_at p) ((zero_done b p e).0 d) ∙ none_at p ∙ sym (cond-true (b.done p) 0 (choice b p) d))
      (λ (d : b.done p ≡ false).
      let l : 0 < rank b p = ⊎_elim (λ z. absurd (both_ways (b.done p) d ((zero_done b p e).1 z))) (λ n. omega (arith, n)) (cases_eq (rank b p) 0) in
      let same : wins_by b ranks (rank b p) p ≡ forced (moves b) (won b (rank b p - 1)) p = ap (λ f. forced (moves b) f p) (held_before p e l) in
      let w = leads (moves b) b.positions p e d in
      ap (λ f. unwrap_or (find f (range_with_len 0 b.choices)) 0) same ∙ found_least (forced (moves b) (won b (rank b p - 1)) p) b.choices (choice b p) w.in_range_lem w.wins ∙ sym (cond-false (b.done p) 0 (choice b p) d))
      (cases_Bool (b.done p))

  pub row_is : (p r : ℕ) → get_or ranks p None ≡ Some r → ◌≡◌ {A = Row} (record { position = p; rank = r; choice = choice_at p r }) (row b p)
  row_is p r e =
      let i = is_won p r e in
      let k : choice_at p r ≡ cond (b.done p) 0 (choice b p) = ap (choice_at p) (sym i.1) ∙ chosen p i.0 in
      λ j. record { position = p; rank = sym i.1 j; choice = k j }

  pub has_row : (p r : ℕ) → get_or ranks p None ≡ Some r → Some (record { position = p; rank = r; choice = choice_at p r }) ≡ row_if b p
  has_row p r e = ap Some (row_is p r e) ∙ sym (cond-true (ranked b p) (Some (row b p)) None (is_won p r e).0)

-- the rows, as a chain over the positions gives them
pub rows_listed : (b : Arena) (n p : ℕ) → filter_map (row_if b) (range_with_len p n) ≡ rows_from b n p
rows_listed b zero p = refl
rows_listed b (suc n) p = ap (cons_option (row_if b p)) (rows_listed b n (p + 1) ∙ ap (rows_from b n) (add-one p)) ∙ kept (ranked b p) (row b p) (rows_from b n (suc p))
  where
    kept : (t : Bool) (r : Row) (rs : List Row) → cons_option (cond t (Some r) None) rs ≡ keep t r rs
    kept true r rs = refl
    kept false r rs = refl

-- which rows solve answers
module _ (b : Arena) (ok : Lawful b) where
  -- a row of the solution, by its position
  same_rank : (r : Row) → Member r (solution b) → r.rank ≡ rank b r.position
  same_rank r i = ap (λ (x : Row). x.rank) ((solution_is_ranked b r).0 i).0

  going : (r : Row) → Member r (solution b) → 0 < r.rank → b.done r.position ≡ false
  going r i h =
      ⊎_elim (λ d. absurd (omega (arith, same_rank r i, (zero_done b r.position ((solution_is_ranked b r).0 i).2).0 d))) (λ d. d) (cases_Bool (b.done r.position))

  same_choice : (r : Row) → Member r (solution b) → 0 < r.rank → r.choice ≡ choice b r.position
  same_choice r i h = ap (λ (x : Row). x.choice) ((solution_is_ranked b r).0 i).0 ∙ cond-false (b.done r.position) 0 (choice b r.position) (going r i h)

  rows_law : RowsLaw b (solution b)
  rows_law = record {
    every = λ p m e.
        let l : p < b.positions = ⊎_elim (λ l. l) (λ g. absurd (both_ways (won b m p) (won_beyond b ok m p g) e)) (cases_lt p b.positions) in
        (row b p, (solution_is_ranked b (row b p)).1 p l (rounds_end b ok m p e), refl);
    reached = λ r i. subst (λ n. won b n r.position ≡ true) (sym (same_rank r i)) (rank_won (moves b) b.positions r.position ((solution_is_ranked b r).0 i).2);
    least = λ r m i e.
        ⊎_elim
        (λ l. omega (arith, same_rank r i, rank_le (moves b) b.positions r.position m (omega arith) e))
        (λ l. omega (arith, same_rank r i, rank_le (moves b) b.positions r.position b.positions (omega arith) ((solution_is_ranked b r).0 i).2))
        (cases_lt m b.positions);
    lowest = λ r i h.
        let p = r.position in
        let t = same_rank r i in
        let c = same_choice r i h in
        let l = leads (moves b) b.positions p ((solution_is_ranked b r).0 i).2 (going r i h) in (
          (λ j. forced (moves b) (won b (t j - 1)) p (c j)) ∙ l.wins,
          λ d less. (λ j. forced (moves b) (won b (t j - 1)) p d) ∙ least_before b.choices (forced (moves b) (won b (rank b p - 1)) p) d (omega (arith, l.in_range_lem, c)) (omega (arith, c)),
        );
  }

-- the law of what was answered
solved_law : (b : Arena) → Lawful b → (rows : List Row) → ranked b 0 ≡ true → rows ≡ solution b → SolveLaw b (Ok tt) rows
solved_law b ok rows e s =
    let good = subst (Accepted b) (sym s) (solution_is_accepted b ok e) in
    let first : rank_in rows 0 ≡ rank b 0 = ap (λ rs. rank_in rs 0) s ∙ solution_rank b ok e in
    (accepted_forces b ok rows good, (λ o m f. omega (arith, first, (rank_is_least b ok e).1 o m f)), good, subst (RowsLaw b) (sym s) (rows_law b ok))

pub solve_law : (b : Arena) → Lawful b → (r : Result (Unit {0}) Refusal) (rows : List Row) → Solved b r rows → SolveLaw b r rows
solve_law b ok (Ok x) rows h = solved_law b ok rows h.0 h.1
solve_law b ok (Err e) rows h = ⊎_elim (λ w. inl (w.1, (hopeless b ok).0 w.0)) (λ w. inr (w.1, (ranked_is_forced b ok).0 w.0)) h.1
