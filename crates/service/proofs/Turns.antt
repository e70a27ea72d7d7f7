-- One turn of a loop that reads slot after slot: what is left to read from slot i on comes to q.
use Rattle.std.proofs.Common.{◌≡◌, ℕ, ◌+◌, ◌-◌, ◌<◌, List, ◌++◌, length, get_or, set, IsErrAnd, Ok, Err, Result, sym, ap, ◌∙◌, subst}
use Rattle.std.proofs.lemmas.List.{get_or_append_left, set-append_left}
use Rattle.std.proofs.lemmas.Result.{err_from_is_err_and}
use Rattle.wire.specs.declared.refusal.Refusal.{Refusal}
use Rattle.wire.specs.Reading.{and_then, steps}
use Rattle.wire.proofs.Loops.{more, stops}
use Rattle.service.specs.File.{Fills, slot}

module _ {P : Type 0} (d : P) (read : ℕ → P → Result (ℕ × P) Refusal) (n i at : ℕ) where
  module _ (xs : List P) (q : Result (ℕ × List P) Refusal) (so_far : steps (slot d read) (n - i) i (at, xs) ≡ q) (h : i < n) where
    pub slot_more : (to : ℕ) (p : P) → read at (get_or xs i d) ≡ Ok (to, p) → steps (slot d read) (n - (i + 1)) (i + 1) (to, set xs i p) ≡ q
    slot_more to p e = sym (more (slot d read) n i (at, xs) h (to, set xs i p) (ap (λ r. and_then r (λ w. Ok (w.0, set xs i w.1))) e)) ∙ so_far

    pub slot_stops : (e : Refusal) → read at (get_or xs i d) ≡ Err e → q ≡ Err e
    slot_stops e w = sym so_far ∙ stops (slot d read) n i (at, xs) h e (ap (λ r. and_then r (λ w. Ok (w.0, set xs i w.1))) w)

  -- where the first slots, xs, are lent to the loop, and zs stands after them
  module _ (xs zs : List P) (q : Result (ℕ × List P) Refusal) (so_far : steps (slot d read) (n - i) i (at, xs ++ zs) ≡ q) (h : i < n) (l : i < length xs) where
    pub front_more : (to : ℕ) (p : P) → read at (get_or xs i d) ≡ Ok (to, p) → steps (slot d read) (n - (i + 1)) (i + 1) (to, set xs i p ++ zs) ≡ q
    front_more to p e = rw (← set-append_left xs zs i p l) (slot_more (xs ++ zs) q so_far h to p (rw (get_or_append_left xs zs d i l) e))

    pub front_stops : (e : Refusal) → read at (get_or xs i d) ≡ Err e → q ≡ Err e
    front_stops e w = slot_stops (xs ++ zs) q so_far h e (rw (get_or_append_left xs zs d i l) w)

-- the exit of a `?`
pub fails : {X : Type 0} (r : Result (Unit {0}) Refusal) (to : ℕ) (x : X) (q : Result (ℕ × X) Refusal) (e : Refusal) → IsErrAnd r (λ y. y ≡ e) → q ≡ Err e → Fills r to x q
fails r to x q e b w = let p = err_from_is_err_and r b in subst (λ z. Fills z to x q) (sym (p.1 ∙ ap Err p.2)) w
