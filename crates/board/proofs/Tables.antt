-- Tables: what is found in them, what they force, and that solve's is accepted.
use Rattle.std.proofs.Common.{◌≡◌, ℕ, zero, suc, ◌+◌, ◌<◌, ◌≤◌, Bool, true, false, ◌⊎◌, List, Some, Decides, sym, refl, ap, ◌∙◌, subst, subst₂, inl, inr, ⊎_elim, arith}
use Rattle.std.proofs.lemmas.Bool.{both_ways, true≢false, false≢true, cases_Bool, cases_eq, cases_lt, cond-true, cond-false, eq-eqb, ne_eqb}
use Rattle.board.specs.Lists.{Member, here, there, some}
use Rattle.board.specs.Game as game
use Rattle.board.specs.Game.{Unfinished, begun, moved}
use Rattle.board.specs.Arena.{Arena, Lawful}
use Rattle.board.specs.Ranks.{moves, won, ranked}
use Rattle.board.specs.Ranks as ranks
use Rattle.board.specs.declared.table.Row.{Row}
use Rattle.board.specs.Table.{Ascending, Accepted, find, rank_of, choice_of_row, rank_in, choice_in, row, keep, rows_from, solution}
use Rattle.board.specs.TableLaw.{SolutionIsRanked, SolutionIsAccepted, AcceptedForces, AcceptedIsAbove}
use Rattle.board.proofs.Basics.{none, first}
use Rattle.board.proofs.Games.{leads, rank_le, rank_won}
use Rattle.board.proofs.Ranking.{read_back, forces_won, rank_is_least, rounds_end}

-- a row is found under its position
pub find_member : {r : Row} {rows : List Row} → Member r rows → Ascending rows → (p : ℕ) → r.position ≡ p → find rows p ≡ Some r
find_member (here {x = r}) a p e = cond-true _ _ _ (eq-eqb r.position p e)
find_member (there {x = r} {y = s} m) a p e = cond-false _ _ _ (ne_eqb s.position p (λ x. omega (arith, x, e, a.0 r m))) ∙ find_member m a.1 p e

-- What an accepted table forces.
pub ranked_above : (b : Arena) (rows : List Row) → Accepted b rows → (r : Row) → Member r rows → b.done r.position ≡ false → 0 < r.rank
ranked_above b rows ok r m d =
    ⊎_elim (λ e. absurd (both_ways (b.done r.position) d ((ok.zero_is_done r m).1 e))) (λ ne. omega arith) (cases_eq r.rank 0)

pub start_rank : (b : Arena) (rows : List Row) (ok : Accepted b rows) → rank_in rows 0 ≡ ok.start.0.rank
start_rank b rows ok = ap rank_of (find_member ok.start.1 ok.ascending 0 ok.start.2)

-- where a play that follows the table stands
pub record Stands (b : Arena) (rows : List Row) (p k : ℕ) : Type 0 where
  pub at : Row
  pub listed : Member at rows
  pub is_at : at.position ≡ p
  pub within : k + at.rank ≤ rank_in rows 0
  pub going : b.done p ≡ false

stands : (b : Arena) (rows : List Row) → Accepted b rows → {p k : ℕ} → Unfinished (moves b) 0 (choice_in rows) p k → Stands b rows p k
stands b rows ok (begun d) = record { at = ok.start.0; listed = ok.start.1; is_at = ok.start.2; within = omega (arith, start_rank b rows ok); going = d }
stands b rows ok (moved {x = p} {y = q} u i d) =
    let w = stands b rows ok u in
    let c : choice_in rows p ≡ w.at.choice = ap choice_of_row (find_member w.listed ok.ascending p w.is_at) in
    let j : Member q (b.outcomes w.at.position w.at.choice) = subst₂ (λ x y. Member q (b.outcomes x y)) (sym w.is_at) c i in
    let up = ranked_above b rows ok w.at w.listed (ap b.done w.is_at ∙ w.going) in
    let s = ok.falls w.at w.listed up q j in
    record { at = s.0; listed = s.1; is_at = s.2; within = omega (arith, s.3, w.within); going = d }

-- by the position alone
pub rows_force : (b : Arena) → Lawful b → (rows : List Row) → Accepted b rows → game.Forces (moves b) 0 (choice_in rows) (rank_in rows 0)
rows_force b lawful rows ok p k u =
    let w = stands b rows ok u in
    let c : choice_in rows p ≡ w.at.choice = ap choice_of_row (find_member w.listed ok.ascending p w.is_at) in
    let up = ranked_above b rows ok w.at w.listed (ap b.done w.is_at ∙ w.going) in
    let plays : some (b.outcomes p (choice_in rows p)) ≡ true = subst₂ (λ x y. some (b.outcomes x y) ≡ true) w.is_at (sym c) (ok.playable w.at w.listed up) in (
      omega (arith, w.within, up),
      ⊎_elim (λ l. l) (λ l. absurd (true≢false (sym plays ∙ ap (some {A = ℕ}) (lawful.beyond_choices p (choice_in rows p) l)))) (cases_lt (choice_in rows p) b.choices),
      plays,
    )

pub accepted_forces : AcceptedForces
accepted_forces b lawful rows ok = read_back b (choice_in rows) (rank_in rows 0) (rows_force b lawful rows ok)

pub accepted_is_above : AcceptedIsAbove
accepted_is_above b lawful rows ok =
    let f = accepted_forces b lawful rows ok in
    let e = rounds_end b lawful (rank_in rows 0) 0 (forces_won b (λ h. choice_in rows h.0) (rank_in rows 0) f) in
    (e, (rank_is_least b lawful e).1 (λ h. choice_in rows h.0) (rank_in rows 0) f)

-- What solve answers.
keep_first : (t : Bool) (r s : Row) (rs : List Row) → Member s (keep t r rs) → ((s ≡ r) × (t ≡ true)) ⊎ Member s rs
keep_first true r s rs m = ⊎_elim (λ e. inl (e, refl)) inr (first m)
keep_first false r s rs m = inr m

keep_here : (t : Bool) (r : Row) (rs : List Row) → t ≡ true → Member r (keep t r rs)
keep_here true r rs e = here
keep_here false r rs e = absurd (false≢true e)

keep_there : (t : Bool) (r s : Row) (rs : List Row) → Member s rs → Member s (keep t r rs)
keep_there true r s rs m = there m
keep_there false r s rs m = m

keep_ascending : (t : Bool) (r : Row) (rs : List Row) → ((s : Row) → Member s rs → r.position < s.position) → Ascending rs → Ascending (keep t r rs)
keep_ascending true r rs h a = (h, a)
keep_ascending false r rs h a = a

pub record Answered (b : Arena) (n p : ℕ) (r : Row) : Type 0 where
  pub as_row : r ≡ row b r.position
  pub from : p ≤ r.position
  pub to : r.position < p + n
  pub is_ranked : ranked b r.position ≡ true

rows_only : (b : Arena) (n p : ℕ) (r : Row) → Member r (rows_from b n p) → Answered b n p r
rows_only b zero p r m = none m
rows_only b (suc n) p r m =
    ⊎_elim
    (λ e.
    let at : r.position ≡ p = ap (λ (s : Row). s.position) e.0 in
    record { as_row = e.0 ∙ ap (row b) (sym at); from = omega arith; to = omega arith; is_ranked = ap (ranked b) at ∙ e.1 })
    (λ i. let w = rows_only b n (suc p) r i in record { as_row = w.as_row; from = omega (arith, w.from); to = omega (arith, w.to); is_ranked = w.is_ranked })
    (keep_first (ranked b p) (row b p) r (rows_from b n (suc p)) m)

rows_each : (b : Arena) (n p q : ℕ) → p ≤ q → q < p + n → ranked b q ≡ true → Member (row b q) (rows_from b n p)
rows_each b zero p q l u e = absurd (omega arith)
rows_each b (suc n) p q l u e =
    ⊎_elim
    (λ s. subst (λ k. Member (row b k) (keep (ranked b p) (row b p) (rows_from b n (suc p)))) (sym s) (keep_here (ranked b p) (row b p) _ (ap (ranked b) (sym s) ∙ e)))
    (λ d. keep_there (ranked b p) (row b p) (row b q) _ (rows_each b n (suc p) q (omega arith) (omega arith) e))
    (cases_eq q p)

rows_ascending : (b : Arena) (n p : ℕ) → Ascending (rows_from b n p)
rows_ascending b zero p = tt
rows_ascending b (suc n) p =
    keep_ascending (ranked b p) (row b p) (rows_from b n (suc p)) (λ s m. omega (arith, (rows_only b n (suc p) s m).from)) (rows_ascending b n (suc p))

pub solution_is_ranked : SolutionIsRanked
solution_is_ranked b r = (
  λ m. let w = rows_only b b.positions 0 r m in (w.as_row, omega (arith, w.to), w.is_ranked),
  λ p l e. rows_each b b.positions 0 p (omega arith) (omega arith) e,
)

pub zero_done : (b : Arena) (p : ℕ) → ranked b p ≡ true → Decides (b.done p) (ranks.rank b p ≡ 0)
zero_done b p e = (
  λ d. omega (arith, rank_le (moves b) b.positions p 0 (omega arith) d),
  λ z. subst (λ k. won b k p ≡ true) z (rank_won (moves b) b.positions p e),
)

going_on : (b : Arena) (p : ℕ) → ranked b p ≡ true → 0 < ranks.rank b p → (b.done p ≡ false) × ((row b p).choice ≡ ranks.choice b p)
going_on b p e l =
    let d : b.done p ≡ false = ⊎_elim (λ t. absurd (omega (arith, (zero_done b p e).0 t))) (λ f. f) (cases_Bool (b.done p)) in
    (d, cond-false (b.done p) 0 (ranks.choice b p) d)

abbrev Plays : Arena → Row → Type 0
Plays b s = 0 < s.rank → some (b.outcomes s.position s.choice) ≡ true

abbrev Falls : Arena → Row → Type 0
Falls b r = 0 < r.rank → (q : ℕ) → Member q (b.outcomes r.position r.choice) → (s : Row) × Member s (solution b) × (s.position ≡ q) × (s.rank < r.rank)

row_plays : (b : Arena) (p : ℕ) → ranked b p ≡ true → Plays b (row b p)
row_plays b p e l = let g = going_on b p e l in subst (λ c. some (b.outcomes p c) ≡ true) (sym g.1) (leads (moves b) b.positions p e g.0).playable

row_falls : (b : Arena) → Lawful b → (p : ℕ) → ranked b p ≡ true → Falls b (row b p)
row_falls b ok p e l q i =
    let g = going_on b p e l in
    let j : Member q (b.outcomes p (ranks.choice b p)) = subst (λ c. Member q (b.outcomes p c)) g.1 i in
    let w = (leads (moves b) b.positions p e g.0).lower q j in
    (row b q, rows_each b b.positions 0 q (omega arith) (omega (arith, ok.on_board p (ranks.choice b p) q j)) w.0, refl, w.1)

pub solution_is_accepted : SolutionIsAccepted
solution_is_accepted b ok e = record {
  ascending = rows_ascending b b.positions 0;
  on_board = λ r m. omega (arith, (rows_only b b.positions 0 r m).to);
  zero_is_done = λ r m. let w = rows_only b b.positions 0 r m in subst (λ (s : Row). Decides (b.done s.position) (s.rank ≡ 0)) (sym w.as_row) (zero_done b r.position w.is_ranked);
  playable = λ r m. let w = rows_only b b.positions 0 r m in subst (Plays b) (sym w.as_row) (row_plays b r.position w.is_ranked);
  start = (row b 0, rows_each b b.positions 0 0 (omega arith) (omega (arith, ok.a_position)) e, refl);
  falls = λ r m. let w = rows_only b b.positions 0 r m in subst (Falls b) (sym w.as_row) (row_falls b ok r.position w.is_ranked);
}

-- the rank of the start stands in the table
pub solution_rank : (b : Arena) → Lawful b → ranked b 0 ≡ true → rank_in (solution b) 0 ≡ ranks.rank b 0
solution_rank b ok e =
    ap rank_of (find_member (rows_each b b.positions 0 0 (omega arith) (omega (arith, ok.a_position)) e) (rows_ascending b b.positions 0) 0 refl)
