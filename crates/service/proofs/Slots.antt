-- Slots that are read one after another: what was read is what stands there, and what stands there is read.
use Rattle.std.proofs.Common.{◌≡◌, ℕ, zero, suc, ◌+◌, ◌<◌, ◌≤◌, List, ◌++◌, length, get_or, drop, set, replicate, Ok, Err, Result, sym, refl, ap, ◌∙◌, subst, ⊎_elim, arith}
use Rattle.std.proofs.lemmas.List.{append_assoc, length-set, get_or-set_same, get_or-set_other, get_or-replicate, length-replicate, ext_get_or}
use Rattle.std.proofs.lemmas.Bool.{cases_lt}
use Rattle.wire.specs.declared.refusal.Refusal.{Refusal}
use Rattle.wire.specs.Reading.{and_then, steps}
use Rattle.service.specs.File.{slot, slots, pieces, Filled}

-- a sequence that came to its end came past its first part
pub passed : {X Y : Type 0} (r : Result X Refusal) (f : X → Result Y Refusal) (y : Y) → and_then r f ≡ Ok y → (x : X) × (r ≡ Ok x) × (f x ≡ Ok y)
passed (Ok x) f y e = (x, refl, e)
passed (Err w) f y e = cc

module _ {P : Type 0} (bs : List ℕ) (d z : P) (read : ℕ → P → Result (ℕ × P) Refusal) (G : P → List ℕ) (Good : P → Type 0) where
  abbrev put : List P → ℕ → List ℕ
  put xs j = G (get_or xs j d)

  pub record ReadOn (n i at to : ℕ) (xs ys : List P) : Type 0 where
    pub long : length ys ≡ length xs
    pub below : (j : ℕ) → j < i → get_or ys j d ≡ get_or xs j d
    pub good : (j : ℕ) → i ≤ j → j < i + n → Good (get_or ys j d)
    pub above : (j : ℕ) → i + n ≤ j → get_or ys j d ≡ get_or xs j d
    pub bytes : drop at bs ≡ pieces (put ys) n i ++ drop to bs

  -- one slot that was read
  abbrev pub ReadsSlot : Type 0
  ReadsSlot = (at to : ℕ) (p : P) → read at z ≡ Ok (to, p) → Good p × (drop at bs ≡ G p ++ drop to bs)

  module _ (one : ReadsSlot) where
    pub read_on : (n i at to : ℕ) (xs ys : List P) → i + n ≤ length xs → ((j : ℕ) → i ≤ j → j < length xs → get_or xs j d ≡ z) → steps (slot d read) n i (at, xs) ≡ Ok (to, ys) → ReadOn n i at to xs ys
    read_on zero i at to xs ys h l e =
        let q : ◌≡◌ {A = ℕ × List P} (at, xs) (to, ys) = cc in
        let x : xs ≡ ys = ap (λ (p : ℕ × List P). p.1) q in
        record {
          long = ap length (sym x);
          below = λ j k. ap (λ (t : List P). get_or t j d) (sym x);
          good = λ j a b. absurd (omega arith);
          above = λ j k. ap (λ (t : List P). get_or t j d) (sym x);
          bytes = ap (λ (p : ℕ × List P). drop p.0 bs) q;
        }
    read_on (suc n) i at to xs ys h l e =
        let a = passed (slot d read i (at, xs)) (steps (slot d read) n (i + 1)) (to, ys) e in
        let b = passed (read at (get_or xs i d)) (λ p. Ok (p.0, set xs i p.1)) a.0 a.1 in
        let mid = b.0.0 in
        let p = b.0.1 in
        let q : ◌≡◌ {A = ℕ × List P} (mid, set xs i p) a.0 = let w = b.2 in cc in
        let first = one at mid p (ap (read at) (sym (l i (omega arith) (omega arith))) ∙ b.1) in
        let long = length-set xs i p in
        let rest = read_on n (i + 1) mid to (set xs i p) ys (omega arith)
        (λ j k m. get_or-set_other xs i j p d (λ x. omega arith) ∙ l j (omega arith) (omega arith))
        (ap (steps (slot d read) n (i + 1)) q ∙ a.2) in
        let here : get_or ys i d ≡ p = rest.below i (omega arith) ∙ get_or-set_same xs i p d (omega arith) in
        record {
          long = rest.long ∙ long;
          below = λ j k. rest.below j (omega arith) ∙ get_or-set_other xs i j p d (λ x. omega arith);
          good = λ j k m. ⊎_elim (λ lt. let x : i ≡ j = omega arith in subst (λ t. Good (get_or ys t d)) x (subst Good (sym here) first.0)) (λ ge. rest.good j ge (omega arith)) (cases_lt j (i + 1));
          above = λ j k. rest.above j (omega arith) ∙ get_or-set_other xs i j p d (λ x. omega arith);
          bytes = first.1 ∙ ap (λ t. G p ++ t) rest.bytes ∙ sym (append_assoc (G p) (pieces (put ys) n (i + 1)) (drop to bs)) ∙ ap (λ x. (G x ++ pieces (put ys) n (i + 1)) ++ drop to bs) (sym here);
        }

    pub filled_read : (m n at to : ℕ) (ys : List P) → n ≤ m → slots d read n at (replicate m z) ≡ Ok (to, ys) → Filled m n d z Good ys × (drop at bs ≡ pieces (put ys) n 0 ++ drop to bs)
    filled_read m n at to ys h e =
        let long = length-replicate m z in
        let r = read_on n 0 at to (replicate m z) ys (omega (arith, long)) (λ j k l. get_or-replicate m j z d (omega (arith, long))) e in (
          record {
            long = r.long ∙ long;
            used = λ j k. r.good j (omega arith) (omega arith);
            unused = λ j k l. r.above j (omega arith) ∙ get_or-replicate m j z d l;
          },
          r.bytes,
        )

  -- one slot that stands there
  abbrev pub TakesSlot : Type 0
  TakesSlot = (at : ℕ) (p : P) (rest : List ℕ) → Good p → at ≤ length bs → drop at bs ≡ G p ++ rest → (to : ℕ) × (read at z ≡ Ok (to, p)) × (drop to bs ≡ rest) × (to ≤ length bs)

  module _ (one : TakesSlot) where
    take_on : (n i at : ℕ) (xs ys : List P) (rest : List ℕ) → length xs ≡ length ys → i + n ≤ length ys → ((j : ℕ) → j < i → get_or xs j d ≡ get_or ys j d) → ((j : ℕ) → i ≤ j → j < length ys → get_or xs j d ≡ z) → ((j : ℕ) → j < i + n → Good (get_or ys j d)) → ((j : ℕ) → i + n ≤ j → j < length ys → get_or ys j d ≡ z) → at ≤ length bs → drop at bs ≡ pieces (put ys) n i ++ rest → (to : ℕ) × (steps (slot d read) n i (at, xs) ≡ Ok (to, ys)) × (drop to bs ≡ rest) × (to ≤ length bs)
    take_on zero i at xs ys rest long h below blank good unused l e =
        let same : xs ≡ ys = ext_get_or d xs ys long (λ j k. ⊎_elim (λ lt. below j lt) (λ ge. blank j ge (omega arith) ∙ sym (unused j (omega arith) (omega arith))) (cases_lt j i)) in
        (at, ap (λ (t : List P). Ok (at, t)) same, e, l)
    take_on (suc n) i at xs ys rest long h below blank good unused l e =
        let p = get_or ys i d in
        let w = one at p (pieces (put ys) n (i + 1) ++ rest) (good i (omega arith)) l (e ∙ append_assoc (G p) (pieces (put ys) n (i + 1)) rest) in
        let len = length-set xs i p in
        let v = take_on n (i + 1) w.0 (set xs i p) ys rest (len ∙ long) (omega arith)
        (λ j k. ⊎_elim (λ lt. get_or-set_other xs i j p d (λ x. omega arith) ∙ below j lt) (λ ge. let x : i ≡ j = omega arith in subst (λ t. get_or (set xs i p) t d ≡ get_or ys t d) x (get_or-set_same xs i p d (omega arith))) (cases_lt j i))
        (λ j k m. get_or-set_other xs i j p d (λ x. omega arith) ∙ blank j (omega arith) m)
        (λ j k. good j (omega arith)) (λ j k m. unused j (omega arith) m) w.3 w.2 in
        let first : slot d read i (at, xs) ≡ Ok (w.0, set xs i p) = ap (λ r. and_then r (λ q. Ok (q.0, set xs i q.1))) (ap (read at) (blank i (omega arith) (omega arith)) ∙ w.1) in
        (v.0, rw first v.1, v.2, v.3)

    pub filled_taken : (m n at : ℕ) (ys : List P) (rest : List ℕ) → n ≤ m → Filled m n d z Good ys → at ≤ length bs → drop at bs ≡ pieces (put ys) n 0 ++ rest → (to : ℕ) × (slots d read n at (replicate m z) ≡ Ok (to, ys)) × (drop to bs ≡ rest) × (to ≤ length bs)
    filled_taken m n at ys rest h f l e =
        let long = length-replicate m z in
        take_on n 0 at (replicate m z) ys rest (long ∙ sym f.long) (omega arith) (λ j k. absurd (omega arith)) (λ j k m. get_or-replicate _ j z d (omega arith)) (λ j k. f.used j (omega arith)) (λ j k m. f.unused j (omega arith) (omega arith)) l e
