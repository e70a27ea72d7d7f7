-- The law of audit: what it accepts is exactly the bytes of accepted rows.
use Rattle.std.proofs.Common.{◌≡◌, ℕ, zero, suc, ◌+◌, ◌-◌, ◌<◌, ◌≤◌, Bool, true, ◌&&◌, eqb, ltb, leb, List, [], ◌∷◌, ◌++◌, length, drop, Ok, Decides, sym, refl, ap, ◌∙◌, subst, inl, inr, ⊎_elim, arith}
use Rattle.std.proofs.lemmas.List.{append_assoc, append-nil, length-map, length-drop, drop_all}
use Rattle.std.proofs.lemmas.Bool.{false≢true, cases_eq, eqb-true, eq-eqb, leb-true, le-leb, or_cases, or_left, or_right, cond-true}
use Rattle.std.proofs.lemmas.Bool.Decides.{Decides-like, Decides-and, Decides-or, Decides-eqb, Decides-ltb}
use Rattle.wire.specs.Number.{number_at, groups}
use Rattle.wire.specs.Reading.{and_then}
use Rattle.wire.proofs.Numbers.{Bytes, number_form, number_read}
use Rattle.board.specs.declared.table.Row.{Row}
use Rattle.board.specs.Arena.{Arena, Lawful}
use Rattle.board.specs.Lists.{Member, here, there, all, any}
use Rattle.board.specs.Ranks.{moves, ranked}
use Rattle.board.specs.Ranks as ranks
use Rattle.board.specs.Table.{Ascending, Accepted, row, solution}
use Rattle.board.proofs.Basics.{all_from, all_at, none, first}
use Rattle.board.proofs.Games.{rank_le}
use Rattle.board.proofs.Tables.{solution_is_ranked, solution_is_accepted}
use Rattle.table.specs.declared.audit.Placed.{Placed}
use Rattle.table.specs.Bytes.{row_bytes, rows_bytes, table_bytes}
use Rattle.table.specs.Audit.{count_at, row_at, rows_at, rows_of, placed, has_row, lower_row, leads, fallen, wholly, audit_of}
use Rattle.table.specs.Law.{Plain, AuditLaw, SolutionIsAudited}
use Rattle.table.proofs.Forms.{passed, answered, goes, asks, in_range_lem, RowGood, count_form, row_form, row_taken}

-- rows that audit takes one after another, none below the floor
abbrev Good : Arena → ℕ → List Row → Type 0
Good b floor [] = Unit {0}
Good b floor (r ∷ rs) = RowGood b r × (floor ≤ r.position) × Good b (r.position + 1) rs

good_each : (b : Arena) (floor : ℕ) (rows : List Row) → Good b floor rows → (r : Row) → Member r rows → RowGood b r × (floor ≤ r.position)
good_each b floor [] g r m = none m
good_each b floor (s ∷ rs) g r m =
    ⊎_elim
    (λ e. subst (λ (x : Row). RowGood b x × (floor ≤ x.position)) (sym e) (g.0, g.1))
    (λ n. let w = good_each b (s.position + 1) rs g.2 r n in (w.0, omega (arith, w.1, g.1)))
    (first m)

good_ascending : (b : Arena) (floor : ℕ) (rows : List Row) → Good b floor rows → Ascending rows
good_ascending b floor [] g = tt
good_ascending b floor (r ∷ rs) g = (λ s m. omega (arith, (good_each b (r.position + 1) rs g.2 s m).1), good_ascending b (r.position + 1) rs g.2)

good_from : (b : Arena) (floor : ℕ) (rows : List Row) → Ascending rows → ((s : Row) → Member s rows → floor ≤ s.position) → ((r : Row) → Member r rows → RowGood b r) → Good b floor rows
good_from b floor [] a f h = tt
good_from b floor (r ∷ rs) a f h =
    (h r here, f r here, good_from b (r.position + 1) rs a.1 (λ s m. omega (arith, a.0 s m)) (λ s m. h s (there m)))

-- there are no more of them than positions
good_few : (b : Arena) (floor : ℕ) (rows : List Row) → floor ≤ b.positions → Good b floor rows → length rows + floor ≤ b.positions
good_few b floor [] l g = omega arith
good_few b floor (r ∷ rs) l g = let w = good_few b (r.position + 1) rs (omega (arith, g.0.on)) g.2 in omega (arith, w, g.1)

-- what the tests on rows decide
decides_any : (f : Row → Bool) (P : Row → Type 0) → ((x : Row) → Decides (f x) (P x)) → (xs : List Row) → Decides (any f xs) ((x : Row) × Member x xs × P x)
decides_any f P d [] = (λ e. absurd (false≢true e), λ h. none h.1)
decides_any f P d (x ∷ xs) =
    Decides-like (any f (x ∷ xs))
    (λ h. ⊎_elim (λ p. (x, here, p)) (λ w. (w.0, there w.1, w.2)) h)
    (λ w. ⊎_elim (λ e. inl (subst P e w.2)) (λ n. inr (w.0, n, w.2)) (first w.1))
    (Decides-or (f x) (any f xs) (d x) (decides_any f P d xs))

decides_start : (rows : List Row) → Decides (has_row rows 0) ((r : Row) × Member r rows × (r.position ≡ 0))
decides_start rows = decides_any (λ (r : Row). eqb r.position 0) (λ r. r.position ≡ 0) (λ r. Decides-eqb r.position 0) rows

decides_lower : (rows : List Row) (t q : ℕ) → Decides (lower_row rows t q) ((s : Row) × Member s rows × ((s.position ≡ q) × (s.rank < t)))
decides_lower rows t q =
    decides_any (λ (s : Row). eqb s.position q && ltb s.rank t) (λ s. (s.position ≡ q) × (s.rank < t)) (λ s. Decides-and (eqb s.position q) (ltb s.rank t) (Decides-eqb s.position q) (Decides-ltb s.rank t)) rows

-- every row leads down, and the rows are those that were read
fallen_form : (f : Row → Bool) (xs : List Placed) (rows : List Row) → fallen f xs ≡ Ok rows → (rows_of xs ≡ rows) × ((r : Row) → Member r (rows_of xs) → f r ≡ true)
fallen_form f [] rows e = (let q : ◌≡◌ {A = List Row} [] rows = cc in q, λ r m. none m)
fallen_form f (x ∷ xs) rows e =
    let t = answered (f x.row) _ (and_then (fallen f xs) (λ more. Ok (x.row ∷ more))) rows e in
    let p = passed (fallen f xs) _ rows t.1 in
    let w = fallen_form f xs p.0 p.1 in
    let q : x.row ∷ p.0 ≡ rows = let v = p.2 in cc in
    (ap (λ rs. x.row ∷ rs) w.0 ∙ q, λ r m. ⊎_elim (λ s. ap f s ∙ t.0) (λ n. w.1 r n) (first m))

fallen_taken : (f : Row → Bool) (xs : List Placed) → ((r : Row) → Member r (rows_of xs) → f r ≡ true) → fallen f xs ≡ Ok (rows_of xs)
fallen_taken f [] h = refl
fallen_taken f (x ∷ xs) h =
    asks (f x.row) _ (and_then (fallen f xs) (λ more. Ok (x.row ∷ more))) (rows_of (x ∷ xs)) (h x.row here)
    (goes (fallen f xs) _ (rows_of xs) (rows_of (x ∷ xs)) (fallen_taken f xs (λ r m. h r (there m))) refl)

module _ (b : Arena) (ok : Lawful b) (bs : List ℕ) where
  rows_form : Bytes bs → (n floor at : ℕ) (p : ℕ × List Placed) → rows_at b bs n floor at ≡ Ok p → (length p.1 ≡ n) × Good b floor (rows_of p.1) × (drop at bs ≡ rows_bytes (rows_of p.1) ++ drop p.0 bs)
  rows_form bytes zero floor at p e =
      let q : ◌≡◌ {A = ℕ × List Placed} (at, []) p = cc in
      subst (λ (x : ℕ × List Placed). (length x.1 ≡ 0) × Good b floor (rows_of x.1) × (drop at bs ≡ rows_bytes (rows_of x.1) ++ drop x.0 bs)) q (refl, tt, refl)
  rows_form bytes (suc n) floor at p e =
      let x = passed (row_at b bs floor at) _ p e in
      let r = x.0.0 in
      let y = passed (rows_at b bs n (r.position + 1) x.0.1) _ p x.2 in
      let f = row_form b bs ok bytes floor at x.0 x.1 in
      let w = rows_form bytes n (r.position + 1) x.0.1 y.0 y.1 in
      let q : ◌≡◌ {A = ℕ × List Placed} (y.0.0, placed at r ∷ y.0.1) p = let v = y.2 in cc in
      let stands : drop at bs ≡ (row_bytes r ++ rows_bytes (rows_of y.0.1)) ++ drop y.0.0 bs = f.2 ∙ ap (λ z. row_bytes r ++ z) w.2 ∙ sym (append_assoc (row_bytes r) (rows_bytes (rows_of y.0.1)) (drop y.0.0 bs)) in
      subst (λ (x : ℕ × List Placed). (length x.1 ≡ suc n) × Good b floor (rows_of x.1) × (drop at bs ≡ rows_bytes (rows_of x.1) ++ drop x.0 bs)) q (ap suc w.0, (f.0, f.1, w.1), stands)

  audit_accepted : Bytes bs → (rows : List Row) → audit_of b bs ≡ Ok rows → (bs ≡ table_bytes rows) × Plain rows × Accepted b rows
  unfolding audit_of table_bytes
  audit_accepted bytes rows e =
      let n = passed (count_at b bs) _ rows e in
      let x = passed (rows_at b bs n.0.0 0 n.0.1) (wholly b bs) rows n.2 in
      let xs = x.0.1 in
      let l = answered (leb (length bs) x.0.0) _ _ rows x.2 in
      let s = answered (has_row (rows_of xs) 0) _ _ rows l.1 in
      let f = fallen_form (leads b (lower_row (rows_of xs))) xs rows s.1 in
      let c = count_form b bs n.0 n.1 in
      let first = number_form bs 0 n.0.0 n.0.1 bytes c.0 in
      let w = rows_form bytes n.0.0 0 n.0.1 x.0 x.1 in
      let many : n.0.0 ≡ length (rows_of xs) = sym (length-map xs (λ (y : Placed). y.row) ∙ w.0) in
      let end : drop x.0.0 bs ≡ [] = drop_all x.0.0 bs (leb-true (length bs) x.0.0 l.0) in
      let rest : drop n.0.1 bs ≡ rows_bytes (rows_of xs) = w.2 ∙ ap (λ z. rows_bytes (rows_of xs) ++ z) end ∙ append-nil (rows_bytes (rows_of xs)) in
      let stands : bs ≡ groups (length (rows_of xs)) ++ rows_bytes (rows_of xs) = first.3 ∙ (λ i. groups (many i) ++ rest i) in
      let each = good_each b 0 (rows_of xs) w.1 in
      let plain : Plain (rows_of xs) = record { ranks = λ r m. (each r m).0.small; choices = λ r m. (each r m).0.byte; blank = λ r m. (each r m).0.blank } in
      let accepted : Accepted b (rows_of xs) = record {
        ascending = good_ascending b 0 (rows_of xs) w.1;
        on_board = λ r m. (each r m).0.on;
        zero_is_done = λ r m. (each r m).0.zero_done;
        playable = λ r m. (each r m).0.plays;
        start = (decides_start (rows_of xs)).0 s.0;
        falls = λ r m up q i.
            ⊎_elim
            (λ z. absurd (omega (arith, up, eqb-true r.rank 0 z)))
            (λ h. let v = (decides_lower (rows_of xs) r.rank q).0 (all_at (lower_row (rows_of xs) r.rank) i h) in (v.0, v.1, v.2.0, v.2.1))
            (or_cases (eqb r.rank 0) (all (lower_row (rows_of xs) r.rank) (b.outcomes r.position r.choice)) (f.1 r m));
      } in
      subst (λ rs. (bs ≡ groups (length rs) ++ rows_bytes rs) × Plain rs × Accepted b rs) f.0 (stands, plain, accepted)

  rows_taken : (rows : List Row) (floor at : ℕ) (rest : List ℕ) → Good b floor rows → at ≤ length bs → drop at bs ≡ rows_bytes rows ++ rest → (to : ℕ) × (xs : List Placed) × (rows_at b bs (length rows) floor at ≡ Ok (to, xs)) × (rows_of xs ≡ rows) × (drop to bs ≡ rest) × (to ≤ length bs)
  rows_taken [] floor at rest g l e = (at, [], refl, refl, e, l)
  rows_taken (r ∷ rs) floor at rest g l e =
      let x = row_taken b bs ok floor at r (rows_bytes rs ++ rest) g.0 g.1 l (e ∙ append_assoc (row_bytes r) (rows_bytes rs) rest) in
      let y = rows_taken rs (r.position + 1) x.0 rest g.2 x.3 x.2 in (
        y.0,
        placed at r ∷ y.1,
        goes (row_at b bs floor at) _ (r, x.0) (y.0, placed at r ∷ y.1) x.1 (goes (rows_at b bs (length rs) (r.position + 1) x.0) _ (y.0, y.1) (y.0, placed at r ∷ y.1) y.2 refl),
        ap (λ zs. r ∷ zs) y.3,
        y.4,
        y.5,
      )

  audit_accepts : (rows : List Row) → Plain rows → bs ≡ table_bytes rows → Accepted b rows → audit_of b bs ≡ Ok rows
  unfolding audit_of table_bytes
  audit_accepts rows plain e good =
      let each : (r : Row) → Member r rows → RowGood b r = λ r m. record {
        on = good.on_board r m;
        zero_done = good.zero_is_done r m;
        plays = good.playable r m;
        small = plain.ranks r m;
        byte = plain.choices r m;
        blank = plain.blank r m;
      } in
      let g = good_from b 0 rows good.ascending (λ s m. omega arith) each in
      let few = good_few b 0 rows (omega arith) g in
      let many : length rows ≤ b.positions = omega (arith, few) in
      let n = number_read bs 0 (length rows) (rows_bytes rows) (omega (arith, ok.few_positions)) (omega arith) e in
      let at = 0 + length (groups (length rows)) in
      let x = rows_taken rows 0 at [] g n.2 (n.1 ∙ sym (append-nil (rows_bytes rows))) in
      let xs = x.1 in
      let all_read : length bs - x.0 ≡ 0 = sym (length-drop x.0 bs) ∙ ap length x.4 in
      let down : (r : Row) → Member r rows → leads b (lower_row rows) r ≡ true = λ r m. ⊎_elim
      (λ z. or_left (eqb r.rank 0) _ (eq-eqb r.rank 0 z))
      (λ d.
      let up : 0 < r.rank = omega arith in
      or_right (eqb r.rank 0) _ (all_from (lower_row rows r.rank) (b.outcomes r.position r.choice) (λ q i. let v = good.falls r m up q i in (decides_lower rows r.rank q).1 (v.0, v.1, (v.2, v.3)))))
      (cases_eq r.rank 0) in
      let falls : fallen (leads b (lower_row (rows_of xs))) xs ≡ Ok (rows_of xs) = fallen_taken (leads b (lower_row (rows_of xs))) xs (subst (λ rs. (r : Row) → Member r rs → leads b (lower_row rs) r ≡ true) (sym x.3) down) in
      let start : has_row (rows_of xs) 0 ≡ true = ap (λ rs. has_row rs 0) x.3 ∙ (decides_start rows).1 good.start in
      goes (count_at b bs) _ (length rows, at) rows
      (goes (number_at bs 0) _ (length rows, at) (length rows, at) n.0 (asks (leb (length rows) b.positions) _ _ (length rows, at) (le-leb (length rows) b.positions many) refl))
      (goes (rows_at b bs (length rows) 0 at) (wholly b bs) (x.0, xs) rows x.2
      (asks (leb (length bs) x.0) _ _ rows (le-leb (length bs) x.0 (omega arith))
      (asks (has_row (rows_of xs) 0) _ _ rows start
      (falls ∙ ap (λ (rs : List Row). Ok rs) x.3))))

pub audit_law : (b : Arena) → Lawful b → (bs : List ℕ) → Bytes bs → AuditLaw b bs
audit_law b ok bs bytes = record { accepted = audit_accepted b ok bs bytes; accepts = audit_accepts b ok bs }

-- what solve answers can be written
solution_plain : (b : Arena) → Lawful b → ranked b 0 ≡ true → Plain (solution b)
solution_plain b ok e =
    let good = solution_is_accepted b ok e in
    let small : (r : Row) → Member r (solution b) → r.rank ≤ b.positions = λ r m.
    let w = (solution_is_ranked b r).0 m in
    subst (λ (s : Row). s.rank ≤ b.positions) (sym w.0) (rank_le (moves b) b.positions r.position b.positions (omega arith) w.2) in
    let done : (r : Row) → Member r (solution b) → r.rank ≡ 0 → r.choice ≡ 0 = λ r m z.
    let w = (solution_is_ranked b r).0 m in
    ap (λ (s : Row). s.choice) w.0 ∙ cond_done b r.position ((good.zero_is_done r m).1 z) in
    record {
      ranks = λ r m. omega (arith, small r m, ok.few_positions);
      choices = λ r m. ⊎_elim
          (λ z. omega (arith, done r m z))
          (λ d. let up : 0 < r.rank = omega arith in omega (arith, in_range_lem b ok r.position r.choice (good.playable r m up), ok.few_choices))
          (cases_eq r.rank 0);
      blank = done;
    }
  where
    cond_done : (b : Arena) (p : ℕ) → b.done p ≡ true → (row b p).choice ≡ 0
    cond_done b p d = cond-true (b.done p) 0 (ranks.choice b p) d

pub solution_is_audited : SolutionIsAudited
solution_is_audited b ok e = audit_accepts b ok (table_bytes (solution b)) (solution b) (solution_plain b ok e) refl (solution_is_accepted b ok e)
