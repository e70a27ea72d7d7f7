-- The row of a position, searched among rows that ascend.
use Rattle.std.proofs.Common.{◌≡◌, ℕ, zero, suc, ◌<◌, ◌≤◌, cond, eqb, List, [], ◌∷◌, length, take, get_or, Some, None, Ok, Err, Result, sym, refl, ap, ◌∙◌, subst, ⊎_elim, arith, MatchResult}
use Rattle.std.proofs.lemmas.List.{length-take, get_or-take}
use Rattle.std.specs.List.Sorted.{IsSearchInRange, IsBinarySearchResult, IsNonDecreasingBy}
use Rattle.std.specs.Ordering.{nat_cmp, ordering_index}
use Rattle.std.proofs.lemmas.Bool.{cond-true, cond-false, eq-eqb, ne_eqb, cases_eq, cases_lt}
use Rattle.std.proofs.lemmas.Bool.Decides.{nat_tests}
use Rattle.std.proofs.lemmas.Cmp.{ranked}
use Rattle.board.specs.Table.{Ascending, find}
use Rattle.board.specs.declared.table.Row.{Row}
use Rattle.board.proofs.Basics.{member_at}
use Rattle.table.specs.Audit.{Rising}

pub rising : (rows : List Row) → Ascending rows → Rising rows
rising [] up i j d l h = absurd (omega arith)
rising (r ∷ rows) up zero zero d l h = absurd (omega arith)
rising (r ∷ rows) up zero (suc j) d l h = up.0 (get_or rows j d) (member_at rows j d (omega arith))
rising (r ∷ rows) up (suc i) zero d l h = absurd (omega arith)
rising (r ∷ rows) up (suc i) (suc j) d l h = rising rows up.1 i j d (omega arith) (omega arith)

lost : (rows : List Row) (p : ℕ) → ((k : ℕ) (d : Row) → k < length rows → (get_or rows k d).position ≡ p → ⊥) → find rows p ≡ None
lost [] p h = refl
lost (r ∷ rows) p h = cond-false _ _ _ (ne_eqb r.position p (h 0 r (omega arith))) ∙ lost rows p (λ k d l. h (suc k) d (omega arith))

found : (rows : List Row) → Rising rows → (p i : ℕ) (d : Row) → i < length rows → (get_or rows i d).position ≡ p → find rows p ≡ Some (get_or rows i d)
found [] up p i d l e = absurd (omega arith)
found (r ∷ rows) up p zero d l e = cond-true _ _ _ (eq-eqb r.position p e)
found (r ∷ rows) up p (suc i) d l e =
    let first = up 0 (suc i) d (omega arith) l in
    cond-false _ _ _ (ne_eqb r.position p (λ x. omega (arith, x, e, first))) ∙ found rows (λ i j d h m. up (suc i) (suc j) d (omega arith) (omega arith)) p i d (omega arith) e

module _ (rows : List Row) (up : Rising rows) (p : ℕ) where
  -- the comparisons with p rise along the rows, as a binary search asks
  comparisons_rise : IsNonDecreasingBy (λ (r : Row). ordering_index (nat_cmp r.position p)) rows
  comparisons_rise i j d le l =
      let same : i ≡ j → (get_or rows i d).position ≡ (get_or rows j d).position = ap (λ k. (get_or rows k d).position) in
      let rise : (get_or rows i d).position ≤ (get_or rows j d).position = ⊎_elim (λ e. omega (arith, same e)) (λ n. omega (arith, up i j d (omega arith) l)) (cases_eq i j) in
      grind (arith, nat_tests)

  pub searched : (r : Result ℕ ℕ) → IsSearchInRange r (length rows) → IsBinarySearchResult (λ (r : Row). nat_cmp r.position p) rows r → MatchResult r (λ i. (d : Row) → find rows p ≡ Some (get_or rows i d)) (λ _. find rows p ≡ None)
  searched (Ok i) h w = λ d. found rows up p i d h (ranked _ p _ (sym (w d)))
  searched (Err i) h w = lost rows p (λ k d l e.
      let parted = w comparisons_rise in
      ⊎_elim
      (λ below. let less : (get_or rows k d).position < p = ranked _ p _ (sym (parted.0 k d (omega arith) below)) in omega arith)
      (λ above. let more : p < (get_or rows k d).position = ranked _ p _ (sym (parted.1 k d above l)) in omega arith)
      (cases_lt k i))

-- rows that stand behind a row of a higher position need not be looked at
rising_tail : (r : Row) (rows : List Row) → Rising (r ∷ rows) → Rising rows
rising_tail r rows up i j d h l = up (suc i) (suc j) d (omega arith) (omega arith)

pub front_enough : (rows : List Row) → Rising rows → (p e : ℕ) → (e < length rows → (d : Row) × (p < (get_or rows e d).position)) → find (take e rows) p ≡ find rows p
front_enough [] up p zero h = refl
front_enough [] up p (suc e) h = refl
front_enough (r ∷ rows) up p zero h =
    sym (lost (r ∷ rows) p (λ k d l q.
    let first : p < r.position = (h (omega arith)).1 in
    let rise : r.position ≤ (get_or (r ∷ rows) k d).position = ⊎_elim (λ e. let same = ap (λ i. (get_or (r ∷ rows) i d).position) e in omega (arith, same)) (λ n. omega (arith, up 0 k d (omega arith) l)) (cases_eq k 0) in
    omega (arith, first, rise, q)))
front_enough (r ∷ rows) up p (suc e) h = ap (cond (eqb r.position p) (Some r)) (front_enough rows (rising_tail r rows up) p e (λ l. h (omega arith)))

pub rising_front : (rows : List Row) → Rising rows → (e : ℕ) → Rising (take e rows)
rising_front rows up e i j d h l =
    let k : j < e = omega (arith, length-take e rows) in
    let m : j < length rows = omega (arith, length-take e rows) in
    subst (λ x. x.position < (get_or (take e rows) j d).position) (sym (get_or-take e rows i d (omega arith)))
    (subst (λ x. (get_or rows i d).position < x.position) (sym (get_or-take e rows j d k)) (up i j d h m))
