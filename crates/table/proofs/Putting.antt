-- Bytes that are put one after another.
use Rattle.std.proofs.Common.{◌≡◌, ℕ, ◌+◌, ◌-◌, ◌<◌, ◌≤◌, true, false, eqb, leb, is_err, true≢false, List, [], ◌∷◌, ◌++◌, length, get_or, drop, set, replicate, Ok, Err, Result, sym, refl, ap, ◌∙◌, subst, arith}
use Rattle.std.proofs.lemmas.List.{append_assoc, at_drop_more, length-append, length-set, length_push, length-replicate, drop-replicate, set_at}
use Rattle.std.proofs.lemmas.Bool.{lt-leb, le-leb, eq-eqb, ne_eqb, cond-true, cond-false, and_right, and_from}
use Rattle.wire.specs.declared.refusal.Cause.TheVariants as cause
use Rattle.wire.specs.declared.refusal.Refusal.{Refusal}
use Rattle.wire.specs.Refusals.{refused}
use Rattle.wire.specs.Number.{groups, put_at}
use Rattle.board.specs.declared.table.Row.{Row}
use Rattle.table.specs.declared.write.Writer.{Writer}
use Rattle.table.specs.Bytes.{choice_bytes, row_bytes, rows_bytes, table_bytes}
use Rattle.table.specs.Writing.{fits, holding, Puts, Adds, PutsTable}

pub put_length : (xs : List ℕ) (i : ℕ) (ys : List ℕ) → length (put_at xs i ys) ≡ length xs
put_length xs i [] = refl
put_length xs i (y ∷ ys) = put_length (set xs i y) (i + 1) ys ∙ length-set xs i y

pub put_append : (xs : List ℕ) (i : ℕ) (ys zs : List ℕ) → put_at xs i (ys ++ zs) ≡ put_at (put_at xs i ys) (i + length ys) zs
put_append xs i [] zs = let e : i ≡ i + 0 = omega arith in ap (λ n. put_at xs n zs) e
put_append xs i (y ∷ ys) zs =
    let e : i + 1 + length ys ≡ i + length (y ∷ ys) = omega arith in
    put_append (set xs i y) (i + 1) ys zs ∙ ap (λ n. put_at (put_at (set xs i y) (i + 1) ys) n zs) e

-- what is put behind a front takes the place of what stood there
put_front : (front xs ys : List ℕ) → length ys ≤ length xs → put_at (front ++ xs) (length front) ys ≡ front ++ (ys ++ drop (length ys) xs)
put_front front xs [] h = refl
put_front front [] (y ∷ ys) h = absurd (omega arith)
put_front front (x ∷ xs) (y ∷ ys) h =
    let s : set (front ++ x ∷ xs) (length front) y ≡ front ++ y ∷ xs = set_at front x xs y (length front) refl in
    let q : (front ++ y ∷ []) ++ xs ≡ front ++ y ∷ xs = append_assoc front (y ∷ []) xs in
    let n : length (front ++ y ∷ []) ≡ length front + 1 = length_push front y in
    ap (λ zs. put_at zs (length front + 1) ys) (s ∙ sym q)
    ∙ ap (λ m. put_at ((front ++ y ∷ []) ++ xs) m ys) (sym n)
    ∙ put_front (front ++ y ∷ []) xs ys (omega arith)
    ∙ append_assoc front (y ∷ []) (ys ++ drop (length ys) xs)

pub put_on_zeros : (n : ℕ) (ys : List ℕ) → length ys ≤ n → put_at (replicate n 0) 0 ys ≡ ys ++ replicate (n - length ys) 0
put_on_zeros n ys h =
    let l : length (replicate {A = ℕ} n 0) ≡ n = length-replicate n 0 in
    put_front [] (replicate n 0) ys (omega arith) ∙ ap (λ zs. ys ++ zs) (drop-replicate (length ys) n 0)

-- bytes after bytes
puts_joined : (before mid after : List ℕ) (at next e : ℕ) (ys zs : List ℕ) → Puts (Ok next) before mid at ys → Puts (Ok e) mid after next zs → Puts (Ok e) before after at (ys ++ zs)
puts_joined before mid after at next e ys zs p w =
    let l = length-append ys zs in
    let k : length mid ≡ length before = ap length p.2 ∙ put_length before at ys in
    (omega (arith, l, p.0, w.0), omega (arith, w.1, k), w.2 ∙ (λ i. put_at (p.2 i) (p.0 i) zs) ∙ sym (put_append before at ys zs))

pub adds_joined : (r : Result (Unit {0}) Refusal) (before mid after : Writer) (ys zs : List ℕ) → Adds (Ok tt) before mid ys → Adds r mid after zs → Adds r before after (ys ++ zs)
adds_joined (Ok u) before mid after ys zs p w = puts_joined before.output.now mid.output.now after.output.now before.at mid.at after.at ys zs p w
adds_joined (Err e) before mid after ys zs p w =
    let l = length-append ys zs in
    let k : length mid.output.now ≡ length before.output.now = ap length p.2 ∙ put_length before.output.now before.at ys in
    (w.0, omega (arith, l, p.0, w.1, k))

-- what was put first does not fit, so neither does the whole
pub adds_fails : (e : Refusal) (before after : Writer) (ys zs : List ℕ) → Adds (Err e) before after ys → Adds (Err e) before after (ys ++ zs)
adds_fails e before after ys zs w = (w.0, omega (arith, w.1, length-append ys zs))

-- the choice stands there only where the rank is not 0
choice_blank : (r : Row) (w : Writer) → w.at ≤ length w.output.now → r.rank ≡ 0 → Adds (Ok tt) w w (choice_bytes r)
choice_blank r w l z =
    let none : choice_bytes r ≡ [] = cond-true (eqb r.rank 0) [] (groups r.choice) (eq-eqb r.rank 0 z) in
    let same : w.at ≡ w.at + 0 = omega arith in
    subst (Adds (Ok tt) w w) (sym none) (same, l, refl)

choice_played : (r : Row) (before after : Writer) (x : Result (Unit {0}) Refusal) → (r.rank ≡ 0 → ⊥) → Adds x before after (groups r.choice) → Adds x before after (choice_bytes r)
choice_played r before after x d w =
    let one : choice_bytes r ≡ groups r.choice = cond-false (eqb r.rank 0) [] (groups r.choice) (ne_eqb r.rank 0 d) in
    subst (Adds x before after) (sym one) w

-- a row, number by number
module _ (r : Row) (before : Writer) where
  pub row_fails : (e : Refusal) (after : Writer) → Adds (Err e) before after (groups r.position) → Adds (Err e) before after (row_bytes r)
  unfolding row_bytes
  row_fails e after w = adds_fails e before after (groups r.position) (groups r.rank ++ choice_bytes r) w

  module _ (mid : Writer) (p : Adds (Ok tt) before mid (groups r.position)) where
    pub rank_fails : (e : Refusal) (after : Writer) → Adds (Err e) mid after (groups r.rank) → Adds (Err e) before after (row_bytes r)
    unfolding row_bytes
    rank_fails e after w = adds_joined (Err e) before mid after (groups r.position) (groups r.rank ++ choice_bytes r) p (adds_fails e mid after (groups r.rank) (choice_bytes r) w)

    module _ (late : Writer) (t : Adds (Ok tt) mid late (groups r.rank)) where
      behind : (x : Result (Unit {0}) Refusal) (after : Writer) → Adds x late after (choice_bytes r) → Adds x before after (row_bytes r)
      unfolding row_bytes
      behind x after c = adds_joined x before mid after (groups r.position) (groups r.rank ++ choice_bytes r) p (adds_joined x mid late after (groups r.rank) (choice_bytes r) t c)

      pub row_blank : r.rank ≡ 0 → Adds (Ok tt) before late (row_bytes r)
      row_blank z =
          let k : length late.output.now ≡ length mid.output.now = ap length t.2 ∙ put_length mid.output.now mid.at (groups r.rank) in
          behind (Ok tt) late (choice_blank r late (omega (arith, t.1, k)) z)

      pub row_played : (x : Result (Unit {0}) Refusal) (after : Writer) → (r.rank ≡ 0 → ⊥) → Adds x late after (groups r.choice) → Adds x before after (row_bytes r)
      row_played x after d w = behind x after (choice_played r late after x d w)

-- the number of rows and i rows are put, and the others are to follow
pub record PutOn (rows : List Row) (before : List ℕ) (i : ℕ) (w : Writer) : Type 0 where
  pub ends : w.at + length (rows_bytes (drop i rows)) ≡ length (table_bytes rows)
  pub same : put_at w.output.now w.at (rows_bytes (drop i rows)) ≡ put_at before 0 (table_bytes rows)
  pub within : w.at ≤ length before
  pub long : length w.output.now ≡ length before

module _ (rows : List Row) (before : List ℕ) where
  too_long : (e : Refusal) → e ≡ refused cause.OutputTooShort 0 → length before < length (table_bytes rows) → PutsTable (Err e) before before rows
  too_long e w l = (w, and_right (leb (length rows) 65535) (leb (length (table_bytes rows)) (length before)) (lt-leb (length (table_bytes rows)) (length before) l))

  module _ (n : ℕ) (many : n ≡ length rows) where
    whole : table_bytes rows ≡ groups n ++ rows_bytes rows
    unfolding table_bytes
    whole = ap (λ m. groups m ++ rows_bytes rows) (sym many)

    count_long : length (table_bytes rows) ≡ length (groups n) + length (rows_bytes rows)
    count_long = ap length whole ∙ length-append (groups n) (rows_bytes rows)

    pub count_fails : (e : Refusal) (after : List ℕ) → Puts (Err e) before after 0 (groups n) → PutsTable (Err e) before after rows
    count_fails e after w = too_long e w.0 (omega (arith, w.1, count_long))

    pub put_on_none : (after : Writer) → Puts (Ok after.at) before after.output.now 0 (groups n) → PutOn rows before 0 after
    put_on_none after w = record {
      ends = omega (arith, w.0, count_long);
      same = (λ i. put_at (w.2 i) (w.0 i) (rows_bytes rows)) ∙ sym (put_append before 0 (groups n) (rows_bytes rows)) ∙ ap (put_at before 0) (sym whole);
      within = w.1;
      long = ap length w.2 ∙ put_length before 0 (groups n);
    }

  module _ (i : ℕ) (now : Writer) (d : Row) (w : PutOn rows before i now) where
    split : i < length rows → rows_bytes (drop i rows) ≡ row_bytes (get_or rows i d) ++ rows_bytes (drop (i + 1) rows)
    split l = at_drop_more rows_bytes rows i d l

    pub put_on_more : i < length rows → (after : Writer) → Adds (Ok tt) now after (row_bytes (get_or rows i d)) → PutOn rows before (i + 1) after
    put_on_more l after p =
        let ys = row_bytes (get_or rows i d) in
        let zs = rows_bytes (drop (i + 1) rows) in
        let s = split l in
        let n : length (rows_bytes (drop i rows)) ≡ length ys + length zs = ap length s ∙ length-append ys zs in
        record {
          ends = omega (arith, p.0, n, w.ends);
          same = (λ j. put_at (p.2 j) (p.0 j) zs) ∙ sym (put_append now.output.now now.at ys zs) ∙ ap (put_at now.output.now now.at) (sym s) ∙ w.same;
          within = omega (arith, p.1, w.long);
          long = ap length p.2 ∙ put_length now.output.now now.at ys ∙ w.long;
        }

-- a table that was written leaves what it should in an output that was all zero
pub table_leaves : (rows : List Row) (room : ℕ) (before after : List ℕ) (r : Result ℕ Refusal) → before ≡ replicate room 0 → is_err r ≡ false → PutsTable r before after rows → after ≡ holding rows room
table_leaves rows room before after (Ok e) blank ok w =
    let long : length before ≡ room = ap length blank ∙ length-replicate room 0 in
    let l : length (table_bytes rows) ≤ room = omega (arith, w.1.0, w.1.1, long) in
    let fit : fits rows room ≡ true = and_from (leb (length rows) 65535) (leb (length (table_bytes rows)) room) (le-leb (length rows) 65535 w.0) (le-leb (length (table_bytes rows)) room l) in
    w.1.2 ∙ ap (λ xs. put_at xs 0 (table_bytes rows)) blank ∙ put_on_zeros room (table_bytes rows) l ∙ sym (cond-true (fits rows room) _ _ fit)
table_leaves rows room before after (Err e) blank ok w = absurd (true≢false ok)

abbrev pub no_row : Row
no_row = record { position = 0; rank = 0; choice = 0 }
