-- Bytes and sheets: what was read stands there, and what stands there is read.
use Rattle.std.proofs.Common.{◌≡◌, ℕ, zero, suc, ◌+◌, ◌-◌, ◌<◌, ◌≤◌, Bool, true, false, cond, eqb, ltb, List, [], ◌∷◌, ◌++◌, length, drop, replicate, Ok, Err, Result, sym, refl, ap, ◌∙◌, subst, arith, length-drop}
use Rattle.std.specs.List.{All, flat_map}
use Rattle.std.proofs.lemmas.List.Elements.{All-nil, All-cons, All-head, All-tail}
use Rattle.std.proofs.lemmas.List.FromFn.{length-map-range_with_len}
use Rattle.std.proofs.lemmas.List.{append_assoc, append-nil, drop_all}
use Rattle.std.proofs.lemmas.Bool.{le-ltb, eqb-true, cond-false}
use Rattle.std.proofs.lemmas.Bool.Decides.{nat_tests}
use Rattle.wire.specs.declared.refusal.Refusal.{Refusal}
use Rattle.wire.specs.Reading.{and_then, steps}
use Rattle.wire.specs.Readers.{ended}
use Rattle.wire.specs.Number.{number_at, groups}
use Rattle.wire.proofs.Numbers.{Bytes, number_form, number_read}
use Rattle.board.specs.Spot.{Seen, Done, Open, Fits}
use Rattle.board.specs.Layout.{Limits}
use Rattle.wire.specs.Fields.{ranged, field}
use Rattle.board.specs.Reading.{one_more, several, outcome_of, choice_of, choices_of, no_outcome_of, no_outcomes_of, spot_of, spots_of, Sheet, sheet_of}
use Rattle.board.specs.Arena.{Arena}
use Rattle.board.specs.Spots.{arena_of}
use Rattle.board.specs.ChartFile.{numbers, choice_bytes, file_bytes, Rising, Charted, Same, ChartLaw}
use Rattle.board.proofs.Loops.{went_on}
use Rattle.board.proofs.Views.{spot_bytes, GoodChoice, Good, good_fits, spots_file, spots_charted, views, views_good, views_bytes, views_same}

-- a sequence that came to its end came past its first part
passed : {X Y : Type 0} (r : Result X Refusal) (f : X → Result Y Refusal) (y : Y) → and_then r f ≡ Ok y → (x : X) × (r ≡ Ok x) × (f x ≡ Ok y)
passed (Ok x) f y e = (x, refl, e)
passed (Err w) f y e = cc

in_range_lem : (at low high : ℕ) (r : Result (ℕ × ℕ) Refusal) (p : ℕ × ℕ) → ranged at low high r ≡ Ok p → (r ≡ Ok p) × (low ≤ p.0) × (p.0 ≤ high)
in_range_lem at low high (Ok q) p e =
    let lower : low ≤ q.0 = grind (arith, nat_tests) in
    let upper : q.0 ≤ high = grind (arith, nat_tests) in
    let same : ◌≡◌ {A = Result (ℕ × ℕ) Refusal} (Ok q) (Ok p) = grind (arith, nat_tests) in
    let eq : q ≡ p = cc in
    (same, subst (λ (x : ℕ × ℕ). low ≤ x.0) eq lower, subst (λ (x : ℕ × ℕ). x.0 ≤ high) eq upper)
in_range_lem at low high (Err w) p e = cc

ranged_ok : (at low high : ℕ) (p : ℕ × ℕ) → low ≤ p.0 → p.0 ≤ high → ranged at low high (Ok p) ≡ Ok p
ranged_ok at low high p l h = grind (arith, nat_tests)

-- the end of a file: nothing is left over
all_taken : (bs : List ℕ) (at : ℕ) (u : Unit {0}) → ended bs at ≡ Ok u → length bs ≤ at
all_taken bs at u e = grind (arith, nat_tests)

module _ (bs : List ℕ) where
  -- two things that stand one after the other
  stands_on : (xs ys : List ℕ) (at next to : ℕ) → drop at bs ≡ xs ++ drop next bs → drop next bs ≡ ys ++ drop to bs → drop at bs ≡ (xs ++ ys) ++ drop to bs
  stands_on xs ys at next to e f = e ∙ ap (λ t. xs ++ t) f ∙ sym (append_assoc xs ys (drop to bs))

  -- What was read stands there.
  module _ (bytes : Bytes bs) where
    field_read : (at low high : ℕ) (p : ℕ × ℕ) → field bs at low high ≡ Ok p → (low ≤ p.0) × (p.0 ≤ high) × (drop at bs ≡ groups p.0 ++ drop p.1 bs)
    field_read at low high p e =
        let r = in_range_lem at low high (number_at bs at) p e in
        let f = number_form bs at p.0 p.1 bytes r.0 in
        (r.1, r.2, f.3)

    -- several things, each of which is good and stands there
    module _ {X : Type 0} (read : ℕ → Result (X × ℕ) Refusal) (good : X → Type 0) (made : X → List ℕ) (one : (at : ℕ) (s : X × ℕ) → read at ≡ Ok s → good s.0 × (drop at bs ≡ made s.0 ++ drop s.1 bs)) where
      record Some (m at : ℕ) (xs : List X) (s : ℕ × List X) : Type 0 where
        list : List X
        many : length list ≡ m
        written : s.1 ≡ xs ++ list
        each : All good list
        stands : drop at bs ≡ flat_map made list ++ drop s.0 bs

      some_more : (m at next : ℕ) (xs : List X) (x : X) (s : ℕ × List X) → good x → drop at bs ≡ made x ++ drop next bs → Some m next (xs ++ (x ∷ [])) s → Some (suc m) at xs s
      some_more m at next xs x s g e r = record {
        list = x ∷ r.list;
        many = ap suc r.many;
        written = r.written ∙ append_assoc xs (x ∷ []) r.list;
        each = All-cons good x r.list g r.each;
        stands = stands_on (made x) (flat_map made r.list) at next s.0 e r.stands;
      }

      some_read : (m i at : ℕ) (xs : List X) (s : ℕ × List X) → steps (one_more read) m i (at, xs) ≡ Ok s → Some m at xs s
      some_read zero i at xs s e =
          let q : ◌≡◌ {A = ℕ × List X} (at, xs) s = cc in
          subst (Some zero at xs) q (record { list = []; many = refl; written = sym (append-nil xs); each = All-nil good; stands = refl })
      some_read (suc m) i at xs s e =
          let a = passed (one_more read i (at, xs)) (steps (one_more read) m (i + 1)) s e in
          let b = passed (read at) (λ p. Ok (p.1, xs ++ (p.0 ∷ []))) a.0 a.1 in
          let p = b.0 in
          let q : ◌≡◌ {A = ℕ × List X} (p.1, xs ++ (p.0 ∷ [])) a.0 = let w = b.2 in cc in
          let f = one at p b.1 in
          let rest = some_read m (i + 1) p.1 (xs ++ (p.0 ∷ [])) s (ap (steps (one_more read) m (i + 1)) q ∙ a.2) in
          some_more m at p.1 xs p.0 s f.0 f.1 rest

      several_read : (m at : ℕ) (s : List X × ℕ) → several read m at ≡ Ok s → (length s.0 ≡ m) × All good s.0 × (drop at bs ≡ flat_map made s.0 ++ drop s.1 bs)
      several_read m at s e =
          let a = passed (steps (one_more read) m 0 (at, [])) (λ t. Ok (t.1, t.0)) s e in
          let r = some_read m 0 at [] a.0 a.1 in
          let q : ◌≡◌ {A = List X × ℕ} (a.0.1, a.0.0) s = let w = a.2 in cc in
          subst (λ (t : List X × ℕ). (length t.0 ≡ m) × All good t.0 × (drop at bs ≡ flat_map made t.0 ++ drop t.1 bs)) ((λ j. (sym r.written j, a.0.0)) ∙ q) (r.many, r.each, r.stands)

    record OutcomesRead (n m at low : ℕ) (xs : List ℕ) (s : ℕ × ℕ × List ℕ) : Type 0 where
      list : List ℕ
      many : length list ≡ m
      written : s.2 ≡ xs ++ list
      rising : Rising low n list
      stands : drop at bs ≡ numbers list ++ drop s.0 bs

    outcomes_more : (n m at next low : ℕ) (xs : List ℕ) (x : ℕ) (s : ℕ × ℕ × List ℕ) → low ≤ x → x < n → drop at bs ≡ groups x ++ drop next bs → OutcomesRead n m next (x + 1) (xs ++ (x ∷ [])) s → OutcomesRead n (suc m) at low xs s
    outcomes_more n m at next low xs x s l h e r = record {
      list = x ∷ r.list;
      many = ap suc r.many;
      written = r.written ∙ append_assoc xs (x ∷ []) r.list;
      rising = (l, h, r.rising);
      stands = stands_on (groups x) (numbers r.list) at next s.0 e r.stands;
    }

    outcomes_read : (n m i at low : ℕ) (xs : List ℕ) (s : ℕ × ℕ × List ℕ) → 1 ≤ n → steps (outcome_of bs n) m i (at, low, xs) ≡ Ok s → OutcomesRead n m at low xs s
    outcomes_read n zero i at low xs s h e =
        let q : ◌≡◌ {A = ℕ × ℕ × List ℕ} (at, low, xs) s = cc in
        subst (OutcomesRead n zero at low xs) q (record { list = []; many = refl; written = sym (append-nil xs); rising = tt; stands = refl })
    outcomes_read n (suc m) i at low xs s h e =
        let a = passed (outcome_of bs n i (at, low, xs)) (steps (outcome_of bs n) m (i + 1)) s e in
        let b = passed (field bs at low (n - 1)) (λ p. Ok (p.1, p.0 + 1, xs ++ (p.0 ∷ []))) a.0 a.1 in
        let p = b.0 in
        let q : ◌≡◌ {A = ℕ × ℕ × List ℕ} (p.1, p.0 + 1, xs ++ (p.0 ∷ [])) a.0 = let w = b.2 in cc in
        let f = field_read at low (n - 1) p b.1 in
        let rest = outcomes_read n m (i + 1) p.1 (p.0 + 1) (xs ++ (p.0 ∷ [])) s h (ap (steps (outcome_of bs n) m (i + 1)) q ∙ a.2) in
        outcomes_more n m at p.1 low xs p.0 s f.0 (omega (arith, f.1)) f.2 rest

    choice_read : (n : ℕ) → 1 ≤ n → (at : ℕ) (s : List ℕ × ℕ) → choice_of bs n at ≡ Ok s → GoodChoice n s.0 × (drop at bs ≡ choice_bytes s.0 ++ drop s.1 bs)
    choice_read n h at s e =
        let a = passed (field bs at 0 8) _ s e in
        let m = a.0 in
        let c = passed (steps (outcome_of bs n) m.0 0 (m.1, 0, [])) (λ t. Ok (t.2, t.0)) s a.2 in
        let r = outcomes_read n m.0 0 m.1 0 [] c.0 h c.1 in
        let q : ◌≡◌ {A = List ℕ × ℕ} (c.0.2, c.0.0) s = let w = c.2 in cc in
        let f = field_read at 0 8 m a.1 in
        subst (λ (t : List ℕ × ℕ). GoodChoice n t.0 × (drop at bs ≡ choice_bytes t.0 ++ drop t.1 bs)) ((λ j. (sym r.written j, c.0.0)) ∙ q) (
          (omega (arith, f.1, r.many), r.rising),
          stands_on (groups m.0) (numbers r.list) at m.1 c.0.0 f.2 r.stands ∙ ap (λ k. (groups k ++ numbers r.list) ++ drop c.0.0 bs) (sym r.many),
        )

    no_outcomes_read : (m i at to : ℕ) → steps (no_outcome_of bs) m i at ≡ Ok to → drop at bs ≡ flat_map choice_bytes (replicate m []) ++ drop to bs
    no_outcomes_read zero i at to e = let q : at ≡ to = cc in ap (λ t. drop t bs) q
    no_outcomes_read (suc m) i at to e =
        let a = passed (no_outcome_of bs i at) (steps (no_outcome_of bs) m (i + 1)) to e in
        let b = passed (field bs at 0 0) (λ p. Ok p.1) a.0 a.1 in
        let f = field_read at 0 0 b.0 b.1 in
        let none : b.0.0 ≡ 0 = omega (arith, f.1) in
        let q : b.0.1 ≡ a.0 = let w = b.2 in cc in
        f.2 ∙ ap (λ (v : ℕ). groups v ++ drop b.0.1 bs) none ∙ ap (λ t. 0 ∷ t) (ap (λ t. drop t bs) q ∙ no_outcomes_read m (i + 1) a.0 to a.2)

    spot_read_by : (n k at : ℕ) (d : ℕ × ℕ) (s : Seen × ℕ) → 1 ≤ n → d.0 ≤ 1 → drop at bs ≡ groups d.0 ++ drop d.1 bs → (t : Bool) → eqb d.0 1 ≡ t → cond t (and_then (no_outcomes_of bs k d.1) (λ x. Ok (Done, x.1))) (and_then (choices_of bs n k d.1) (λ x. Ok (Open x.0, x.1))) ≡ Ok s → Good n k s.0 × (drop at bs ≡ spot_bytes k s.0 ++ drop s.1 bs)
    spot_read_by n k at d s h l f true t e =
        let a = passed (no_outcomes_of bs k d.1) (λ x. Ok (Done, x.1)) s e in
        let b = passed (steps (no_outcome_of bs) k 0 d.1) (λ to. Ok (tt, to)) a.0 a.1 in
        let q : ◌≡◌ {A = Unit {0} × ℕ} (tt, b.0) a.0 = let w = b.2 in cc in
        let r : ◌≡◌ {A = Seen × ℕ} (Done, a.0.1) s = let w = a.2 in cc in
        subst (λ (x : Seen × ℕ). Good n k x.0 × (drop at bs ≡ spot_bytes k x.0 ++ drop x.1 bs)) ((λ j. (Done, (q j).1)) ∙ r)
        (tt, f ∙ ap (λ (v : ℕ). groups v ++ drop d.1 bs) (eqb-true d.0 1 t) ∙ ap (λ x. 1 ∷ x) (no_outcomes_read k 0 d.1 b.0 b.1))
    spot_read_by n k at d s h l f false t e =
        let a = passed (choices_of bs n k d.1) (λ x. Ok (Open x.0, x.1)) s e in
        let c = several_read (choice_of bs n) (GoodChoice n) choice_bytes (choice_read n h) k d.1 a.0 a.1 in
        let r : ◌≡◌ {A = Seen × ℕ} (Open a.0.0, a.0.1) s = let w = a.2 in cc in
        let none : d.0 ≡ 0 = grind (arith, nat_tests) in
        subst (λ (x : Seen × ℕ). Good n k x.0 × (drop at bs ≡ spot_bytes k x.0 ++ drop x.1 bs)) r
        ((c.0, c.1), f ∙ ap (λ (v : ℕ). groups v ++ drop d.1 bs) none ∙ ap (λ x. 0 ∷ x) c.2)

    spot_read : (n k : ℕ) → 1 ≤ n → (at : ℕ) (s : Seen × ℕ) → spot_of bs n k at ≡ Ok s → Good n k s.0 × (drop at bs ≡ spot_bytes k s.0 ++ drop s.1 bs)
    spot_read n k h at s e =
        let a = passed (field bs at 0 1) _ s e in
        let f = field_read at 0 1 a.0 a.1 in
        spot_read_by n k at a.0 s h f.1 f.2 (eqb a.0.0 1) refl a.2

    pub record SheetRead (x : Sheet) : Type 0 where
      pub many : length x.spots ≡ x.positions
      pub good : All (Good x.positions x.choices) x.spots
      pub stands : bs ≡ groups x.positions ++ (groups x.choices ++ flat_map (spot_bytes x.choices) x.spots)
      pub limits : Limits x.positions x.choices

    pub sheet_read : (x : Sheet) → sheet_of bs ≡ Ok x → SheetRead x
    sheet_read x e =
        let a = passed (field bs 0 1 256) _ x e in
        let n = a.0 in
        let b = passed (field bs n.1 1 8) _ x a.2 in
        let k = b.0 in
        let c = passed (spots_of bs n.0 k.0 k.1) _ x b.2 in
        let s = c.0 in
        let d = passed (ended bs s.1) _ x c.2 in
        let q : ◌≡◌ {A = Sheet} (record { positions = n.0; choices = k.0; spots = s.0 }) x = let w = d.2 in cc in
        let fn = field_read 0 1 256 n a.1 in
        let fk = field_read n.1 1 8 k b.1 in
        let r = several_read (spot_of bs n.0 k.0) (Good n.0 k.0) (spot_bytes k.0) (spot_read n.0 k.0 fn.0) n.0 k.1 s c.1 in
        let last : flat_map (spot_bytes k.0) s.0 ++ drop s.1 bs ≡ flat_map (spot_bytes k.0) s.0 = ap (λ t. flat_map (spot_bytes k.0) s.0 ++ t) (drop_all s.1 bs (all_taken bs s.1 d.0 d.1)) ∙ append-nil (flat_map (spot_bytes k.0) s.0) in
        subst SheetRead q (record {
          many = r.0;
          good = r.1;
          stands = fn.2 ∙ ap (λ t. groups n.0 ++ t) (fk.2 ∙ ap (λ t. groups k.0 ++ t) (r.2 ∙ last));
          limits = (fn.0, fn.1, fk.0, fk.1);
        })

  -- What stands there is read.
  abbrev Taken : {X : Type 0} → Result X Refusal → (ℕ → X) → List ℕ → Type 0
  Taken r x rest = (to : ℕ) × (r ≡ Ok (x to)) × (drop to bs ≡ rest) × (to ≤ length bs)

  field_taken : (at low high v : ℕ) (rest : List ℕ) → low ≤ v → v ≤ high → v ≤ 65535 → at ≤ length bs → drop at bs ≡ groups v ++ rest → Taken (field bs at low high) (λ to. (v, to)) rest
  field_taken at low high v rest a b f l e =
      let r = number_read bs at v rest f l e in
      (at + length (groups v), ap (ranged at low high) r.0 ∙ ranged_ok at low high (v, at + length (groups v)) a b, r.1, r.2)

  -- several things, each of which is read where it stands
  module _ {X : Type 0} (read : ℕ → Result (X × ℕ) Refusal) (good : X → Type 0) (made : X → List ℕ) (one : (at : ℕ) (x : X) (rest : List ℕ) → good x → at ≤ length bs → drop at bs ≡ made x ++ rest → Taken (read at) (λ to. (x, to)) rest) where
    some_taken : (i at : ℕ) (xs ys : List X) (rest : List ℕ) → All good ys → at ≤ length bs → drop at bs ≡ flat_map made ys ++ rest → Taken (steps (one_more read) (length ys) i (at, xs)) (λ to. (to, xs ++ ys)) rest
    some_taken i at xs [] rest g l e = (at, ap (λ (ys : List X). Ok (at, ys)) (sym (append-nil xs)), e, l)
    some_taken i at xs (y ∷ ys) rest g l e =
        let f = one at y (flat_map made ys ++ rest) (All-head good y ys g) l (e ∙ append_assoc (made y) (flat_map made ys) rest) in
        let more = some_taken (i + 1) f.0 (xs ++ (y ∷ [])) ys rest (All-tail good y ys g) f.3 f.2 in (
          more.0,
          went_on (one_more read i (at, xs)) (steps (one_more read) (length ys) (i + 1)) (f.0, xs ++ (y ∷ [])) _ (went_on (read at) _ (y, f.0) _ f.1 refl) (more.1 ∙ ap (λ (zs : List X). Ok (more.0, zs)) (append_assoc xs (y ∷ []) ys)),
          more.2,
          more.3,
        )

    several_taken : (m at : ℕ) (ys : List X) (rest : List ℕ) → length ys ≡ m → All good ys → at ≤ length bs → drop at bs ≡ flat_map made ys ++ rest → Taken (several read m at) (λ to. (ys, to)) rest
    several_taken m at ys rest many g l e =
        let r = some_taken 0 at [] ys rest g l e in
        let all : steps (one_more read) m 0 (at, []) ≡ Ok (r.0, ys) = ap (λ j. steps (one_more read) j 0 (at, [])) (sym many) ∙ r.1 in
        (r.0, went_on (steps (one_more read) m 0 (at, [])) _ (r.0, ys) _ all refl, r.2, r.3)

  -- the least that another outcome might be
  abbrev after : ℕ → List ℕ → ℕ
  after low [] = low
  after low (w ∷ ws) = after (w + 1) ws

  outcomes_taken : (n i at low : ℕ) (xs ws rest : List ℕ) → n ≤ 256 → Rising low n ws → at ≤ length bs → drop at bs ≡ numbers ws ++ rest → Taken (steps (outcome_of bs n) (length ws) i (at, low, xs)) (λ to. (to, after low ws, xs ++ ws)) rest
  outcomes_taken n i at low xs [] rest h r l e = (at, ap (λ (ys : List ℕ). Ok (at, low, ys)) (sym (append-nil xs)), e, l)
  outcomes_taken n i at low xs (w ∷ ws) rest h r l e =
      let f = field_taken at low (n - 1) w (numbers ws ++ rest) r.0 (omega (arith, r.1)) (omega (arith, r.1)) l (e ∙ append_assoc (groups w) (numbers ws) rest) in
      let more = outcomes_taken n (i + 1) f.0 (w + 1) (xs ++ (w ∷ [])) ws rest h r.2 f.3 f.2 in
      let first : outcome_of bs n i (at, low, xs) ≡ Ok (f.0, w + 1, xs ++ (w ∷ [])) = went_on (field bs at low (n - 1)) _ (w, f.0) _ f.1 refl in (
        more.0,
        went_on (outcome_of bs n i (at, low, xs)) (steps (outcome_of bs n) (length ws) (i + 1)) (f.0, w + 1, xs ++ (w ∷ [])) _ first (more.1 ∙ ap (λ (ys : List ℕ). Ok (more.0, after (w + 1) ws, ys)) (append_assoc xs (w ∷ []) ws)),
        more.2,
        more.3,
      )

  choice_taken : (n : ℕ) → n ≤ 256 → (at : ℕ) (ws rest : List ℕ) → GoodChoice n ws → at ≤ length bs → drop at bs ≡ choice_bytes ws ++ rest → Taken (choice_of bs n at) (λ to. (ws, to)) rest
  choice_taken n h at ws rest g l e =
      let f = field_taken at 0 8 (length ws) (numbers ws ++ rest) (omega arith) g.0 (omega (arith, g.0)) l (e ∙ append_assoc (groups (length ws)) (numbers ws) rest) in
      let more = outcomes_taken n 0 f.0 0 [] ws rest h g.1 f.3 f.2 in
      (more.0, went_on (field bs at 0 8) _ (length ws, f.0) _ f.1 (went_on (steps (outcome_of bs n) (length ws) 0 (f.0, 0, [])) _ (more.0, after 0 ws, ws) _ more.1 refl), more.2, more.3)

  no_outcomes_taken : (m i at : ℕ) (rest : List ℕ) → at ≤ length bs → drop at bs ≡ flat_map choice_bytes (replicate m []) ++ rest → Taken (steps (no_outcome_of bs) m i at) (λ to. to) rest
  no_outcomes_taken zero i at rest l e = (at, refl, e, l)
  no_outcomes_taken (suc m) i at rest l e =
      let f = field_taken at 0 0 0 (flat_map choice_bytes (replicate m []) ++ rest) (omega arith) (omega arith) (omega arith) l e in
      let more = no_outcomes_taken m (i + 1) f.0 rest f.3 f.2 in
      (more.0, went_on (no_outcome_of bs i at) (steps (no_outcome_of bs) m (i + 1)) f.0 _ (went_on (field bs at 0 0) _ (0, f.0) _ f.1 refl) more.1, more.2, more.3)

  spot_taken : (n k : ℕ) → n ≤ 256 → (at : ℕ) (v : Seen) (rest : List ℕ) → Good n k v → at ≤ length bs → drop at bs ≡ spot_bytes k v ++ rest → Taken (spot_of bs n k at) (λ to. (v, to)) rest
  spot_taken n k h at Done rest g l e =
      let f = field_taken at 0 1 1 (flat_map choice_bytes (replicate k []) ++ rest) (omega arith) (omega arith) (omega arith) l e in
      let more = no_outcomes_taken k 0 f.0 rest f.3 f.2 in
      (more.0, went_on (field bs at 0 1) _ (1, f.0) _ f.1 (went_on (no_outcomes_of bs k f.0) _ (tt, more.0) _ (went_on (steps (no_outcome_of bs) k 0 f.0) _ more.0 _ more.1 refl) refl), more.2, more.3)
  spot_taken n k h at (Open xs) rest g l e =
      let f = field_taken at 0 1 0 (flat_map choice_bytes xs ++ rest) (omega arith) (omega arith) (omega arith) l e in
      let more = several_taken (choice_of bs n) (GoodChoice n) choice_bytes (choice_taken n h) k f.0 xs rest g.0 g.1 f.3 f.2 in
      (more.0, went_on (field bs at 0 1) _ (0, f.0) _ f.1 (went_on (choices_of bs n k f.0) _ (xs, more.0) _ more.1 refl), more.2, more.3)

  ended_taken : (to : ℕ) → drop to bs ≡ [] → ended bs to ≡ Ok tt
  ended_taken to e = let l : length bs ≤ to = omega (arith, length-drop to bs, ap length e) in cond-false (ltb to (length bs)) _ _ (le-ltb to (length bs) l)

  pub sheet_taken : (n k : ℕ) (vs : List Seen) → 1 ≤ n → n ≤ 256 → 1 ≤ k → k ≤ 8 → length vs ≡ n → All (Good n k) vs → bs ≡ groups n ++ (groups k ++ flat_map (spot_bytes k) vs) → sheet_of bs ≡ Ok (record { positions = n; choices = k; spots = vs })
  sheet_taken n k vs a b c d many g e =
      let fn = field_taken 0 1 256 n (groups k ++ flat_map (spot_bytes k) vs) a b (omega arith) (omega arith) e in
      let fk = field_taken fn.0 1 8 k (flat_map (spot_bytes k) vs) c d (omega arith) fn.3 fn.2 in
      let r = several_taken (spot_of bs n k) (Good n k) (spot_bytes k) (spot_taken n k b) n fk.0 vs [] many g fk.3 (fk.2 ∙ sym (append-nil (flat_map (spot_bytes k) vs))) in
      went_on (field bs 0 1 256) _ (n, fn.0) _ fn.1
      (went_on (field bs fn.0 1 8) _ (k, fk.0) _ fk.1
      (went_on (spots_of bs n k fk.0) _ (vs, r.0) _ r.1
      (went_on (ended bs r.0) _ tt _ (ended_taken r.0 r.2) refl)))

-- The law.
law_taken : (bs : List ℕ) (b : Arena) (ok : Charted b) → bs ≡ file_bytes b → sheet_of bs ≡ Ok (record { positions = b.positions; choices = b.choices; spots = views b ok })
law_taken bs b ok e =
    sheet_taken bs b.positions b.choices (views b ok) ok.a_position ok.few_positions ok.a_choice ok.few_choices (length-map-range_with_len _ 0 b.positions) (views_good b ok) (e ∙ views_bytes b ok)

pub law_read : (bs : List ℕ) → Bytes bs → (x : Sheet) → sheet_of bs ≡ Ok x → ChartLaw bs (Ok tt) (arena_of x.positions x.choices x.spots)
law_read bs bytes x e =
    let r = sheet_read bs bytes x e in
    let n = x.positions in
    let k = x.choices in (
      spots_charted n k x.spots r.good r.many r.limits.0 r.limits.1 r.limits.2 r.limits.3,
      r.stands ∙ sym (spots_file n k x.spots r.good r.many),
      λ b ok s.
          let t = law_taken bs b ok s in
          let same : ◌≡◌ {A = Sheet} (record { positions = b.positions; choices = b.choices; spots = views b ok }) x = let w = e in cc in
          subst (λ (y : Sheet). Same b (arena_of y.positions y.choices y.spots)) same (views_same b ok),
    )

pub law_refused : (bs : List ℕ) (e : Refusal) → sheet_of bs ≡ Err e → (b : Arena) → Charted b → bs ≡ file_bytes b → ⊥
law_refused bs e r b ok s = let t = law_taken bs b ok s in cc

-- what was read makes a chart
pub read_sized : (bs : List ℕ) → Bytes bs → (x : Sheet) → sheet_of bs ≡ Ok x → (length x.spots ≡ x.positions) × All (Fits x.positions x.choices) x.spots
read_sized bs bytes x e = let r = sheet_read bs bytes x e in (r.many, λ p d l. good_fits x.positions x.choices _ (r.good p d l))
