-- What a row or a number that was read tells, and what it takes to read one.
use Rattle.std.proofs.Common.{◌≡◌, ℕ, ◌+◌, ◌<◌, ◌≤◌, Bool, true, false, eqb, ltb, leb, ◌⊎◌, List, [], ◌++◌, length, drop, Ok, Err, Decides, Result, sym, refl, ap, ◌∙◌, subst, inl, inr, ⊎_elim, arith}
use Rattle.std.proofs.lemmas.List.{append_assoc}
use Rattle.std.proofs.lemmas.Bool.{both_ways, true≢false, false≢true, cases_Bool, cases_eq, cases_lt, eq-eqb, ne_eqb, ltb-true, lt-ltb, leb-true, le-leb, not-true, not_from_false, cond-true, cond-false}
use Rattle.std.proofs.lemmas.Bool.Decides.{Decides-eqb}
use Rattle.wire.specs.declared.refusal.Refusal.{Refusal}
use Rattle.wire.specs.Number.{number_at, groups}
use Rattle.wire.specs.Reading.{and_then}
use Rattle.wire.proofs.Numbers.{Bytes, number_form, number_read}
use Rattle.board.specs.declared.table.Row.{Row}
use Rattle.board.specs.Arena.{Arena, Lawful}
use Rattle.board.specs.Lists.{some, same}
use Rattle.table.specs.Bytes.{choice_bytes, row_bytes}
use Rattle.table.specs.Audit.{asked, count_at, position_at, rank_at, choice_at, row_of, row_at}

-- results that go through
pub passed : {X Y : Type 0} (r : Result X Refusal) (f : X → Result Y Refusal) (y : Y) → and_then r f ≡ Ok y → (x : X) × (r ≡ Ok x) × (f x ≡ Ok y)
passed (Ok x) f y e = (x, refl, e)
passed (Err w) f y e = absurd (let z : ◌≡◌ {A = ℕ} 0 1 = cc in omega arith)

pub answered : {X : Type 0} (t : Bool) (e : Refusal) (next : Result X Refusal) (y : X) → asked t e next ≡ Ok y → (t ≡ true) × (next ≡ Ok y)
answered true e next y h = (refl, h)
answered false e next y h = absurd (let z : ◌≡◌ {A = ℕ} 0 1 = cc in omega arith)

pub goes : {X Y : Type 0} (r : Result X Refusal) (f : X → Result Y Refusal) (x : X) (y : Y) → r ≡ Ok x → f x ≡ Ok y → and_then r f ≡ Ok y
goes r f x y e g = ap (λ q. and_then q f) e ∙ g

pub asks : {X : Type 0} (t : Bool) (e : Refusal) (next : Result X Refusal) (y : X) → t ≡ true → next ≡ Ok y → asked t e next ≡ Ok y
asks t e next y h g = cond-true t next (Err e) h ∙ g

pub decides_same : {P : Type 0} (x y : Bool) → Decides y P → Decides (same x y) (Decides x P)
decides_same true y d = (λ e. (λ _. d.0 e, λ _. refl), λ h. d.1 (h.0 refl))
decides_same false y d = (
  λ e. (λ z. absurd (false≢true z), λ p. absurd (both_ways y (not-true y e) (d.1 p))),
  λ h. ⊎_elim (λ t. absurd (false≢true (h.1 (d.0 t)))) (λ t. not_from_false y t) (cases_Bool y),
)

-- a playable choice is one of the board's
pub in_range_lem : (b : Arena) → Lawful b → (p c : ℕ) → some (b.outcomes p c) ≡ true → c < b.choices
in_range_lem b ok p c e =
    ⊎_elim (λ l. l) (λ l. absurd (true≢false (sym e ∙ ap (some {A = ℕ}) (ok.beyond_choices p c l)))) (cases_lt c b.choices)

-- a row that audit takes, wherever it stands
pub record RowGood (b : Arena) (r : Row) : Type 0 where
  pub on : r.position < b.positions
  pub zero_done : Decides (b.done r.position) (r.rank ≡ 0)
  pub plays : 0 < r.rank → some (b.outcomes r.position r.choice) ≡ true
  pub small : r.rank ≤ 65535
  pub byte : r.choice ≤ 255
  pub blank : r.rank ≡ 0 → r.choice ≡ 0

joins : (u v w x : List ℕ) → u ++ (v ++ (w ++ x)) ≡ (u ++ (v ++ w)) ++ x
joins u v w x = sym (simp append_assoc)

blank_bytes : (r : Row) → r.rank ≡ 0 → choice_bytes r ≡ []
blank_bytes r z = cond-true (eqb r.rank 0) [] (groups r.choice) (eq-eqb r.rank 0 z)

played_bytes : (r : Row) → (r.rank ≡ 0 → ⊥) → choice_bytes r ≡ groups r.choice
played_bytes r d = cond-false (eqb r.rank 0) [] (groups r.choice) (ne_eqb r.rank 0 d)

module _ (b : Arena) (bs : List ℕ) where
  pub count_form : (n : ℕ × ℕ) → count_at b bs ≡ Ok n → (number_at bs 0 ≡ Ok n) × (n.0 ≤ b.positions)
  count_form n e =
      let x = passed (number_at bs 0) _ n e in
      let s = answered (leb x.0.0 b.positions) _ _ n x.2 in
      let q : x.0 ≡ n = let w = s.1 in cc in
      subst (λ (y : ℕ × ℕ). (number_at bs 0 ≡ Ok y) × (y.0 ≤ b.positions)) q (x.1, leb-true x.0.0 b.positions s.0)

  position_form : (floor at : ℕ) (p : ℕ × ℕ) → position_at b bs floor at ≡ Ok p → (number_at bs at ≡ Ok p) × (p.0 < b.positions) × (floor ≤ p.0)
  position_form floor at p e =
      let x = passed (number_at bs at) _ p e in
      let s = answered (ltb x.0.0 b.positions) _ _ p x.2 in
      let u = answered (leb floor x.0.0) _ _ p s.1 in
      let q : x.0 ≡ p = let w = u.1 in cc in
      subst (λ (y : ℕ × ℕ). (number_at bs at ≡ Ok y) × (y.0 < b.positions) × (floor ≤ y.0)) q (x.1, ltb-true x.0.0 b.positions s.0, leb-true floor x.0.0 u.0)

  rank_form : (p at : ℕ) (t : ℕ × ℕ) → rank_at b bs p at ≡ Ok t → (number_at bs at ≡ Ok t) × Decides (b.done p) (t.0 ≡ 0)
  rank_form p at t e =
      let x = passed (number_at bs at) _ t e in
      let s = answered (same (b.done p) (eqb x.0.0 0)) _ _ t x.2 in
      let q : x.0 ≡ t = let w = s.1 in cc in
      let d = (decides_same (b.done p) (eqb x.0.0 0) (Decides-eqb x.0.0 0)).0 s.0 in
      subst (λ (y : ℕ × ℕ). (number_at bs at ≡ Ok y) × Decides (b.done p) (y.0 ≡ 0)) q (x.1, d)

  choice_form : (p at : ℕ) (c : ℕ × ℕ) → choice_at b bs p at ≡ Ok c → (number_at bs at ≡ Ok c) × (some (b.outcomes p c.0) ≡ true)
  choice_form p at c e =
      let x = passed (number_at bs at) _ c e in
      let s = answered (some (b.outcomes p x.0.0)) _ _ c x.2 in
      let q : x.0 ≡ c = let w = s.1 in cc in
      subst (λ (y : ℕ × ℕ). (number_at bs at ≡ Ok y) × (some (b.outcomes p y.0) ≡ true)) q (x.1, s.0)

  -- how a row goes on behind its rank
  abbrev Ending : Row → ℕ → ℕ → Type 0
  Ending r third to =
      ((r.rank ≡ 0) × (r.choice ≡ 0) × (to ≡ third))
      ⊎ ((r.rank ≡ 0 → ⊥) × (number_at bs third ≡ Ok (r.choice, to)) × (some (b.outcomes r.position r.choice) ≡ true))

  -- the numbers of a row that was read
  pub record Parts (floor at : ℕ) (r : Row) (to : ℕ) : Type 0 where
    pub second : ℕ
    pub third : ℕ
    pub position : number_at bs at ≡ Ok (r.position, second)
    pub on : r.position < b.positions
    pub above : floor ≤ r.position
    pub rank : number_at bs second ≡ Ok (r.rank, third)
    pub zero_done : Decides (b.done r.position) (r.rank ≡ 0)
    pub ending : Ending r third to

  pub row_parts : (floor at : ℕ) (x : Row × ℕ) → row_at b bs floor at ≡ Ok x → Parts floor at x.0 x.1
  unfolding row_at
  row_parts floor at x e =
      let p = passed (position_at b bs floor at) _ x e in
      let t = passed (rank_at b bs p.0.0 p.0.1) _ x p.2 in
      let fp = position_form floor at p.0 p.1 in
      let ft = rank_form p.0.0 p.0.1 t.0 t.1 in
      let build : (c to : ℕ) → Ending (row_of p.0.0 t.0.0 c) t.0.1 to → Parts floor at (row_of p.0.0 t.0.0 c) to = λ c to end. record {
        second = p.0.1;
        third = t.0.1;
        position = fp.0;
        on = fp.1;
        above = fp.2;
        rank = ft.0;
        zero_done = ft.1;
        ending = end;
      } in
      ⊎_elim
      (λ z.
      let w = sym (cond-true (eqb t.0.0 0) _ _ (eq-eqb t.0.0 0 z)) ∙ t.2 in
      let q : ◌≡◌ {A = Row × ℕ} (row_of p.0.0 t.0.0 0, t.0.1) x = cc in
      subst (λ (y : Row × ℕ). Parts floor at y.0 y.1) q (build 0 t.0.1 (inl (z, refl, refl))))
      (λ d.
      let w = sym (cond-false (eqb t.0.0 0) _ _ (ne_eqb t.0.0 0 d)) ∙ t.2 in
      let c = passed (choice_at b bs p.0.0 t.0.1) _ x w in
      let fc = choice_form p.0.0 t.0.1 c.0 c.1 in
      let q : ◌≡◌ {A = Row × ℕ} (row_of p.0.0 t.0.0 c.0.0, c.0.1) x = let v = c.2 in cc in
      subst (λ (y : Row × ℕ). Parts floor at y.0 y.1) q (build c.0.0 c.0.1 (inr (d, fc.0, fc.1))))
      (cases_eq t.0.0 0)

  module _ (ok : Lawful b) where
    -- a row that was read stands there
    pub row_form : Bytes bs → (floor at : ℕ) (x : Row × ℕ) → row_at b bs floor at ≡ Ok x → RowGood b x.0 × (floor ≤ x.0.position) × (drop at bs ≡ row_bytes x.0 ++ drop x.1 bs)
    unfolding row_bytes
    row_form bytes floor at x e =
        let w = row_parts floor at x e in
        let r = x.0 in
        let to = x.1 in
        let p = number_form bs at r.position w.second bytes w.position in
        let t = number_form bs w.second r.rank w.third bytes w.rank in
        let whole : drop w.third bs ≡ choice_bytes r ++ drop to bs → drop at bs ≡ (groups r.position ++ (groups r.rank ++ choice_bytes r)) ++ drop to bs = λ tail. p.3 ∙ ap (λ z. groups r.position ++ z) (t.3 ∙ ap (λ z. groups r.rank ++ z) tail) ∙ joins (groups r.position) (groups r.rank) (choice_bytes r) (drop to bs) in
        ⊎_elim
        (λ h. (
          record { on = w.on; zero_done = w.zero_done; plays = λ l. absurd (omega (arith, h.0)); small = t.0; byte = omega (arith, h.1); blank = λ _. h.1 },
          w.above,
          whole (ap (λ n. drop n bs) (sym h.2) ∙ ap (λ z. z ++ drop to bs) (sym (blank_bytes r h.0))),
        ))
        (λ h.
        let c = number_form bs w.third r.choice to bytes h.1 in (
          record { on = w.on; zero_done = w.zero_done; plays = λ _. h.2; small = t.0; byte = omega (arith, in_range_lem b ok r.position r.choice h.2, ok.few_choices); blank = λ z. absurd (h.0 z) },
          w.above,
          whole (c.3 ∙ ap (λ z. z ++ drop to bs) (sym (played_bytes r h.0))),
        ))
        w.ending

    -- a row that stands there is read
    pub row_taken : (floor at : ℕ) (r : Row) (rest : List ℕ) → RowGood b r → floor ≤ r.position → at ≤ length bs → drop at bs ≡ row_bytes r ++ rest → (to : ℕ) × (row_at b bs floor at ≡ Ok (r, to)) × (drop to bs ≡ rest) × (to ≤ length bs)
    unfolding row_at row_bytes
    row_taken floor at r rest g above l e =
        let p = number_read bs at r.position (groups r.rank ++ (choice_bytes r ++ rest)) (omega (arith, g.on, ok.few_positions)) l (e ∙ sym (joins (groups r.position) (groups r.rank) (choice_bytes r) rest)) in
        let second = at + length (groups r.position) in
        let t = number_read bs second r.rank (choice_bytes r ++ rest) g.small p.2 p.1 in
        let third = second + length (groups r.rank) in
        let position : position_at b bs floor at ≡ Ok (r.position, second) = goes (number_at bs at) _ (r.position, second) (r.position, second) p.0 (asks (ltb r.position b.positions) _ _ (r.position, second) (lt-ltb r.position b.positions g.on) (asks (leb floor r.position) _ _ (r.position, second) (le-leb floor r.position above) refl)) in
        let done = (decides_same (b.done r.position) (eqb r.rank 0) (Decides-eqb r.rank 0)).1 g.zero_done in
        let rank : rank_at b bs r.position second ≡ Ok (r.rank, third) = goes (number_at bs second) _ (r.rank, third) (r.rank, third) t.0 (asks (same (b.done r.position) (eqb r.rank 0)) _ _ (r.rank, third) done refl) in
        ⊎_elim
        (λ z.
        let as_row : ◌≡◌ {A = Row} (row_of r.position r.rank 0) r = ap (λ c. row_of r.position r.rank c) (sym (g.blank z)) in (
          third,
          goes (position_at b bs floor at) _ (r.position, second) (r, third) position (goes (rank_at b bs r.position second) _ (r.rank, third) (r, third) rank (cond-true (eqb r.rank 0) _ _ (eq-eqb r.rank 0 z) ∙ ap (λ (s : Row). Ok (s, third)) as_row)),
          t.1 ∙ ap (λ y. y ++ rest) (blank_bytes r z),
          t.2,
        ))
        (λ d.
        let plays = g.plays (omega arith) in
        let c = number_read bs third r.choice rest (omega (arith, g.byte)) t.2 (t.1 ∙ ap (λ y. y ++ rest) (played_bytes r d)) in
        let end = third + length (groups r.choice) in
        let choice : choice_at b bs r.position third ≡ Ok (r.choice, end) = goes (number_at bs third) _ (r.choice, end) (r.choice, end) c.0 (asks (some (b.outcomes r.position r.choice)) _ _ (r.choice, end) plays refl) in (
          end,
          goes (position_at b bs floor at) _ (r.position, second) (r, end) position (goes (rank_at b bs r.position second) _ (r.rank, third) (r, end) rank (cond-false (eqb r.rank 0) _ _ (ne_eqb r.rank 0 d) ∙ goes (choice_at b bs r.position third) _ (r.choice, end) (r, end) choice refl)),
          c.1,
          c.2,
        ))
        (cases_eq r.rank 0)
