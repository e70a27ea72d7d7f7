-- One turn of the loops that read the rows and look whether they lead down.
use Rattle.std.proofs.Common.{◌≡◌, ℕ, zero, suc, ◌+◌, ◌-◌, ◌<◌, ◌≤◌, Bool, true, false, not, cond, ◌&&◌, eqb, ltb, leb, List, [], ◌∷◌, ◌++◌, length, get_or, set, replicate, is_some, Some, None, Ok, Err, Option, Result, sym, refl, ap, ◌∙◌, subst, ⊎_elim, arith}
use mathlib.Core.Path.{fun_ext}
use Rattle.std.proofs.lemmas.List.{append_assoc, append-nil, length-set, length-replicate, get_or-set_same, get_or-set_other, map_push}
use Rattle.std.proofs.lemmas.Bool.{cases_eq}
use Rattle.std.proofs.lemmas.Bool.Decides.{nat_tests}
use Rattle.wire.specs.declared.refusal.Cause.TheVariants as cause
use Rattle.wire.specs.declared.refusal.Refusal.{Refusal}
use Rattle.wire.specs.Refusals.{refused}
use Rattle.wire.specs.Reading.{and_then}
use Rattle.wire.specs.Readers.{ended}
use Rattle.wire.proofs.Bounded.{and_true}
use Rattle.std.specs.List.{find}
use Rattle.std.proofs.lemmas.List.Folds.{list_any-append}
use Rattle.board.specs.declared.table.Row.{Row}
use Rattle.board.specs.Arena.{Arena}
use Rattle.board.specs.Lists.{any}
use Rattle.board.specs.Rounds.{held, under}
use Rattle.table.specs.declared.audit.Placed.{Placed}
use Rattle.table.specs.Audit.{count_at, row_at, rows_at, rows_of, placed, asked, lower_row, leads, fallen, wholly, audit_of, Marked}

-- rows that were read before others
abbrev pub prefixed : List Placed → Result (ℕ × List Placed) Refusal → Result (ℕ × List Placed) Refusal
prefixed xs q = and_then q (λ y. Ok (y.0, xs ++ y.1))

prefixed_none : (q : Result (ℕ × List Placed) Refusal) → prefixed [] q ≡ q
prefixed_none (Ok y) = refl
prefixed_none (Err e) = refl

prefixed_more : (xs : List Placed) (x : Placed) (q : Result (ℕ × List Placed) Refusal) → prefixed xs (and_then q (λ y. Ok (y.0, x ∷ y.1))) ≡ prefixed (xs ++ x ∷ []) q
prefixed_more xs x (Ok y) = ap (λ (zs : List Placed). Ok (y.0, zs)) (sym (append_assoc xs (x ∷ []) y.1))
prefixed_more xs x (Err e) = refl

blank_at : (n q : ℕ) → ◌≡◌ {A = Option ℕ} (get_or (replicate n None) q None) None
blank_at zero q = refl
blank_at (suc n) zero = refl
blank_at (suc n) (suc q) = blank_at n q

-- the list of ranks with one row more, whose position had none
module _ (ranks : List (Option ℕ)) (rows : List Row) (r : Row) (l : r.position < length ranks) (blank : get_or ranks r.position None ≡ None) (m : Marked ranks rows) where
  abbrev next : List (Option ℕ)
  next = set ranks r.position (Some r.rank)

  -- a test on the rank of a position, told by rows, stays so
  marked_on : (f : Option ℕ → Bool) (test : Row → Bool) (q : ℕ) → f None ≡ false → test r ≡ (eqb r.position q && f (Some r.rank)) → f (get_or ranks q None) ≡ any test rows → f (get_or next q None) ≡ any test (rows ++ r ∷ [])
  marked_on f test q z h old =
      let push = list_any-append test rows (r ∷ []) in
      ⊎_elim
      (λ e.
      let now : get_or next q None ≡ Some r.rank = ap (λ i. get_or next i None) e ∙ get_or-set_same ranks r.position (Some r.rank) None l in
      let before : get_or ranks q None ≡ None = ap (λ i. get_or ranks i None) e ∙ blank in
      grind (arith, nat_tests))
      (λ d. let now = get_or-set_other ranks r.position q (Some r.rank) None d in grind (arith, nat_tests))
      (cases_eq q r.position)

  marked_more : Marked next (rows ++ r ∷ [])
  marked_more = record {
    lower = λ t q. marked_on (under t) (λ (s : Row). eqb s.position q && ltb s.rank t) q refl refl (m.lower t q);
    listed = λ q. marked_on is_some (λ (s : Row). eqb s.position q) q refl (sym (and_true (eqb r.position q))) (m.listed q);
  }

marked_none : Marked (replicate 1024 None) []
marked_none = record { lower = λ t q. ap (under t) (blank_at 1024 q); listed = λ q. ap is_some (blank_at 1024 q) }

-- ranks in the list are the ranks of the rows
pub leads_same : (b : Arena) (ranks : List (Option ℕ)) (rows : List Row) → Marked ranks rows → leads b (held ranks) ≡ leads b (lower_row rows)
leads_same b ranks rows m = ap (leads b) (fun_ext (λ t. fun_ext (λ q. m.lower t q)))

-- what `wholly` asks first is what a reader asks at its end
not_ended : {X : Type 0} (at : ℕ) (bs : List ℕ) (rest : Result X Refusal) (e : Refusal) → ended bs at ≡ Err e → asked (leb (length bs) at) (refused cause.BytesLeftOver at) rest ≡ Err e
not_ended at bs rest e h = grind (arith, nat_tests)

when_ended : {X : Type 0} (at : ℕ) (bs : List ℕ) (rest : Result X Refusal) → ended bs at ≡ Ok tt → asked (leb (length bs) at) (refused cause.BytesLeftOver at) rest ≡ rest
when_ended at bs rest h = grind (arith, nat_tests)

-- the first row that fails the test is the fault
fallen_lost : (f : Row → Bool) (xs : List Placed) (x : Placed) → find (λ (y : Placed). not (f y.row)) xs ≡ Some x → fallen f xs ≡ Err (refused cause.RankNotFalling x.place)
fallen_lost f [] x e = absurd (let n : ◌≡◌ {A = ℕ} 0 1 = cc in omega arith)
fallen_lost f (y ∷ xs) x e = let more = fallen_lost f xs x in grind (arith, nat_tests, more)

fallen_all : (f : Row → Bool) (xs : List Placed) → find (λ (y : Placed). not (f y.row)) xs ≡ None → fallen f xs ≡ Ok (rows_of xs)
fallen_all f [] e = refl
fallen_all f (y ∷ xs) e = let more = fallen_all f xs in grind (arith, nat_tests, more)

module _ (b : Arena) (bs : List ℕ) where
  -- i of n rows are read, the next begins at a place and is not below the floor, and with those that follow they decide
  pub record Reading (n i floor at : ℕ) (xs : List Placed) (ranks : List (Option ℕ)) : Type 0 where
    pub goes : and_then (prefixed xs (rows_at b bs (n - i) floor at)) (wholly b bs) ≡ audit_of b bs
    pub marked : Marked ranks (rows_of xs)
    pub fresh : (q : ℕ) → floor ≤ q → get_or ranks q None ≡ None
    pub long : length ranks ≡ 1024

  pub uncounted : (e : Refusal) → count_at b bs ≡ Err e → audit_of b bs ≡ Err e
  unfolding audit_of
  uncounted e h = ap (λ q. and_then q (λ n. and_then (rows_at b bs n.0 0 n.1) (wholly b bs))) h

  pub reading_none : (n floor at : ℕ) (xs : List Placed) (ranks : List (Option ℕ)) → count_at b bs ≡ Ok (n, at) → floor ≡ 0 → xs ≡ [] → ranks ≡ replicate 1024 None → Reading n 0 floor at xs ranks
  unfolding audit_of
  reading_none n floor at xs ranks h o e f =
      let z : n - 0 ≡ n = omega arith in
      record {
        goes =
            ap (λ q. and_then q (wholly b bs)) ((λ i. prefixed (e i) (rows_at b bs (z i) (o i) at)) ∙ prefixed_none _)
            ∙ sym (ap (λ q. and_then q (λ (n : ℕ × ℕ). and_then (rows_at b bs n.0 0 n.1) (wholly b bs))) h);
        marked = subst (λ ys. Marked ranks (rows_of ys)) (sym e) (subst (λ ms. Marked ms []) (sym f) marked_none);
        fresh = λ q _. ap (λ ms. get_or ms q None) f ∙ blank_at 1024 q;
        long = ap length f ∙ length-replicate {A = Option ℕ} 1024 None;
      }

  module _ (n i floor at : ℕ) (xs : List Placed) (ranks : List (Option ℕ)) (w : Reading n i floor at xs ranks) where
    opened : i < n → rows_at b bs (n - i) floor at ≡ rows_at b bs (suc (n - (i + 1))) floor at
    opened l = let e : n - i ≡ suc (n - (i + 1)) = omega arith in ap (λ m. rows_at b bs m floor at) e

    abbrev behind : Row × ℕ → Result (ℕ × List Placed) Refusal
    behind x = and_then (rows_at b bs (n - (i + 1)) (x.0.position + 1) x.1) (λ y. Ok (y.0, placed at x.0 ∷ y.1))

    pub reading_more : i < n → (r : Row) (to : ℕ) → r.position < 1024 → floor ≤ r.position → row_at b bs floor at ≡ Ok (r, to) → Reading n (i + 1) (r.position + 1) to (xs ++ placed at r ∷ []) (set ranks r.position (Some r.rank))
    reading_more l r to below above e =
        let more = marked_more ranks (rows_of xs) r (omega (arith, w.long)) (w.fresh r.position above) w.marked in
        record {
          goes =
              sym (ap (λ q. and_then q (wholly b bs)) (ap (prefixed xs) (opened l ∙ ap (λ q. and_then q behind) e) ∙ prefixed_more xs (placed at r) (rows_at b bs (n - (i + 1)) (r.position + 1) to)))
              ∙ w.goes;
          marked = subst (Marked (set ranks r.position (Some r.rank))) (sym (map_push (λ (x : Placed). x.row) xs (placed at r))) more;
          fresh = λ q h. get_or-set_other ranks r.position q (Some r.rank) None (λ x. omega arith) ∙ w.fresh q (omega arith);
          long = length-set ranks r.position (Some r.rank) ∙ w.long;
        }

    pub reading_stops : i < n → (e : Refusal) → row_at b bs floor at ≡ Err e → audit_of b bs ≡ Err e
    reading_stops l e h = sym w.goes ∙ ap (λ q. and_then (prefixed xs q) (wholly b bs)) (opened l ∙ ap (λ q. and_then q behind) h)

    module _ (l : n ≤ i) where
      all_read : audit_of b bs ≡ wholly b bs (at, xs)
      all_read =
          let e : n - i ≡ 0 = omega arith in
          sym w.goes ∙ ap (λ m. and_then (prefixed xs (rows_at b bs m floor at)) (wholly b bs)) e ∙ ap (λ (zs : List Placed). wholly b bs (at, zs)) (append-nil xs)

      pub reading_left : (e : Refusal) → ended bs at ≡ Err e → audit_of b bs ≡ Err e
      reading_left e h = all_read ∙ not_ended at bs _ e h

      module _ (h : ended bs at ≡ Ok tt) where
        started : (t : Bool) → is_some (get_or ranks 0 None) ≡ t → audit_of b bs ≡ cond t (fallen (leads b (held ranks)) xs) (Err (refused cause.NoStartRow (length bs)))
        started t e =
            all_read
            ∙ when_ended at bs _ h
            ∙ (λ i. cond ((sym (w.marked.listed 0) ∙ e) i) (fallen (sym (leads_same b ranks (rows_of xs) w.marked) i) xs) (Err (refused cause.NoStartRow (length bs))))

        pub reading_lost : is_some (get_or ranks 0 None) ≡ false → audit_of b bs ≡ Err (refused cause.NoStartRow (length bs))
        reading_lost e = started false e

        module _ (some : is_some (get_or ranks 0 None) ≡ true) where
          pub reading_loose : (x : Placed) → find (λ (y : Placed). not (leads b (held ranks) y.row)) xs ≡ Some x → audit_of b bs ≡ Err (refused cause.RankNotFalling x.place)
          reading_loose x e = started true some ∙ fallen_lost (leads b (held ranks)) xs x e

          pub reading_whole : find (λ (y : Placed). not (leads b (held ranks) y.row)) xs ≡ None → audit_of b bs ≡ Ok (rows_of xs)
          reading_whole e = started true some ∙ fallen_all (leads b (held ranks)) xs e
