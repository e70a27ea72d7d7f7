-- The accepted bytes are those of the files with every number in its field.
use Rattle.std.proofs.Common.{◌≡◌, ℕ, ◌+◌, ◌-◌, ◌^◌, ◌<◌, ◌≤◌, false, cond, ltb, List, [], ◌++◌, length, get_or, drop, replicate, Ok, Err, Result, sym, refl, ap, ◌∙◌, subst, ⊎_elim, arith, length-drop, pow_pos, pow_mono}
use Rattle.std.proofs.lemmas.List.{append_assoc, append-nil, drop_all}
use Rattle.std.proofs.lemmas.Bool.{cases_lt, lt-ltb, le-ltb, cond-false}
use Rattle.std.proofs.lemmas.Bool.Decides.{nat_tests}
use Rattle.wire.specs.declared.refusal.Refusal.{Refusal}
use Rattle.wire.specs.Reading.{and_then}
use Rattle.wire.specs.Number.{number_at, groups}
use Rattle.wire.proofs.Numbers.{Bytes, number_form, number_read}
use Rattle.service.specs.declared.service.Service.{Service}
use Rattle.wire.specs.Fields.{field, ranged}
use Rattle.service.specs.FileTables.{file_lawful, ServicesLawful}
use Rattle.service.specs.File.{Contents, entry_of, row_of, table_of, service_of, services_of, file_of, no_service, zero_row, zero_service, pieces, row_bytes, service_bytes, bytes_of, RowWithin, ServiceWithin, Within, ServicesLaw}
use Rattle.service.proofs.Slots.{passed, ReadsSlot, filled_read, TakesSlot, filled_taken}

in_range_lem : (at low high : ℕ) (r : Result (ℕ × ℕ) Refusal) (p : ℕ × ℕ) → ranged at low high r ≡ Ok p → (r ≡ Ok p) × (low ≤ p.0) × (p.0 ≤ high)
in_range_lem at low high (Ok q) p e =
    let lower : low ≤ q.0 = grind (arith, nat_tests) in
    let upper : q.0 ≤ high = grind (arith, nat_tests) in
    let same : ◌≡◌ {A = Result (ℕ × ℕ) Refusal} (Ok q) (Ok p) = grind (arith, nat_tests) in
    let eq : q ≡ p = cc in
    (same, subst (λ (x : ℕ × ℕ). low ≤ x.0) eq lower, subst (λ (x : ℕ × ℕ). x.0 ≤ high) eq upper)
in_range_lem at low high (Err w) p e = cc

ranged_ok : (at low high : ℕ) (p : ℕ × ℕ) → low ≤ p.0 → p.0 ≤ high → ranged at low high (Ok p) ≡ Ok p
ranged_ok at low high p l h = grind (arith, nat_tests)

power : (n : ℕ) → n ≤ 16 → (1 ≤ 2 ^ n) × (2 ^ n ≤ 65536)
power n h = (pow_pos n, pow_mono h)

joins : (a b c d e : List ℕ) → a ++ (b ++ (c ++ (d ++ e))) ≡ (a ++ (b ++ (c ++ d))) ++ e
joins a b c d e = sym (simp append_assoc)

goes : {X Y : Type 0} (r : Result X Refusal) (f : X → Result Y Refusal) (x : X) (y : Y) → r ≡ Ok x → f x ≡ Ok y → and_then r f ≡ Ok y
goes r f x y e g = ap (λ q. and_then q f) e ∙ g

-- the end of a file: nothing is left over
ended : {X : Type 0} (i n : ℕ) (e : Refusal) (x y : X) → cond (ltb i n) (Err e) (Ok x) ≡ Ok y → (n ≤ i) × (x ≡ y)
ended i n e x y h =
    ⊎_elim
    (λ lt. let b = lt-ltb i n lt in cc)
    (λ ge. let b = le-ltb i n ge in (ge, cc))
    (cases_lt i n)

ended_bytes : (bs : List ℕ) (at to : ℕ) (xs : List ℕ) → drop at bs ≡ xs ++ drop to bs → length bs ≤ to → drop at bs ≡ xs
ended_bytes bs at to xs e h = e ∙ ap (λ ys. xs ++ ys) (drop_all to bs h) ∙ append-nil xs

module _ (bs : List ℕ) where
  -- a field that stands there is read
  pub field_taken : (at low high v : ℕ) (rest : List ℕ) → low ≤ v → v ≤ high → v ≤ 65535 → at ≤ length bs → drop at bs ≡ groups v ++ rest → (to : ℕ) × (field bs at low high ≡ Ok (v, to)) × (drop to bs ≡ rest) × (to ≤ length bs)
  field_taken at low high v rest a b f l e =
      let r = number_read bs at v rest f l e in
      (at + length (groups v), ap (ranged at low high) r.0 ∙ ranged_ok at low high (v, at + length (groups v)) a b, r.1, r.2)

  module _ (bytes : Bytes bs) where
    -- a field that was read stands there
    pub field_read : (at low high : ℕ) (p : ℕ × ℕ) → field bs at low high ≡ Ok p → (low ≤ p.0) × (p.0 ≤ high) × (drop at bs ≡ groups p.0 ++ drop p.1 bs)
    field_read at low high p e =
        let r = in_range_lem at low high (number_at bs at) p e in
        let f = number_form bs at p.0 p.1 bytes r.0 in
        (r.1, r.2, f.3)

    abbrev below : ℕ → ℕ → Type 0
    below n set = set < 2 ^ n

    entry_read : (n : ℕ) → n ≤ 16 → ReadsSlot bs 0 0 (entry_of bs (2 ^ n - 1)) groups (below n)
    entry_read n h at to v e =
        let a = passed (field bs at 0 (2 ^ n - 1)) (λ p. Ok (p.1, p.0)) (to, v) e in
        let f = field_read at 0 (2 ^ n - 1) a.0 a.1 in
        let q : ◌≡◌ {A = ℕ × ℕ} (a.0.1, a.0.0) (to, v) = let w = a.2 in cc in
        let w = power n h in
        let l : a.0.0 < 2 ^ n = omega (arith, w.0, f.1) in
        subst (λ (p : ℕ × ℕ). below n p.1 × (drop at bs ≡ groups p.1 ++ drop p.0 bs)) q (l, f.2)

    row_read : (n k : ℕ) → n ≤ 16 → k ≤ 16 → ReadsSlot bs [] zero_row (row_of bs k (2 ^ n - 1)) (row_bytes k) (RowWithin n k)
    row_read n k h l at to row e = filled_read bs 0 0 (entry_of bs (2 ^ n - 1)) groups (below n) (entry_read n h) 16 k at to row l e

    service_read : (k : ℕ) → k ≤ 16 → ReadsSlot bs no_service zero_service (service_of bs k) (service_bytes k) (ServiceWithin k)
    service_read k l at to x e =
        let a = passed (field bs at 1 16) _ (to, x) e in
        let n = a.0.0 in
        let b = passed (field bs a.0.1 0 (n - 1)) _ (to, x) a.2 in
        let f = passed (field bs b.0.1 0 (2 ^ n - 1)) _ (to, x) b.2 in
        let t = passed (table_of bs n k (2 ^ n - 1) f.0.1 (replicate 16 zero_row)) _ (to, x) f.2 in
        let y : Service = record { states = n; initial = b.0.0; finals = f.0.0; entries = t.0.1 } in
        let q : ◌≡◌ {A = ℕ × Service} (t.0.0, y) (to, x) = let w = t.2 in cc in
        let fa = field_read at 1 16 a.0 a.1 in
        let fb = field_read a.0.1 0 (n - 1) b.0 b.1 in
        let ff = field_read b.0.1 0 (2 ^ n - 1) f.0 f.1 in
        let w = power n fa.1 in
        let r = filled_read bs [] zero_row (row_of bs k (2 ^ n - 1)) (row_bytes k) (RowWithin n k) (row_read n k fa.1 l) 16 n f.0.1 t.0.0 t.0.1 fa.1 t.1 in
        let good : ServiceWithin k y = record {
          some_state = fa.0;
          few_states = fa.1;
          initial = omega (arith, fb.1, fa.0);
          finals = omega (arith, ff.1, w.0);
          entries = r.0;
        } in
        let stands : drop at bs ≡ service_bytes k y ++ drop t.0.0 bs = fa.2 ∙ ap (λ x. groups n ++ x) (fb.2 ∙ ap (λ x. groups b.0.0 ++ x) (ff.2 ∙ ap (λ x. groups f.0.0 ++ x) r.1)) ∙ joins (groups n) (groups b.0.0) (groups f.0.0) _ _ in
        subst (λ (p : ℕ × Service). ServiceWithin k p.1 × (drop at bs ≡ service_bytes k p.1 ++ drop p.0 bs)) q (good, stands)

    file_read : (c : Contents) → file_of bs ≡ Ok c → Within c × (bs ≡ bytes_of c)
    file_read c e =
        let a = passed (field bs 0 1 8) _ c e in
        let n = a.0.0 in
        let b = passed (field bs a.0.1 1 16) _ c a.2 in
        let k = b.0.0 in
        let t = passed (services_of bs n k b.0.1 (replicate 8 zero_service)) _ c b.2 in
        let y : Contents = record { count = n; actions = k; services = t.0.1 } in
        let end = ended t.0.0 (length bs) _ y c t.2 in
        let fa = field_read 0 1 8 a.0 a.1 in
        let fb = field_read a.0.1 1 16 b.0 b.1 in
        let r = filled_read bs no_service zero_service (service_of bs k) (service_bytes k) (ServiceWithin k) (service_read k fb.1) 8 n b.0.1 t.0.0 t.0.1 fa.1 t.1 in
        let good : Within y = record {
          some_service = fa.0;
          few_services = fa.1;
          some_action = fb.0;
          few_actions = fb.1;
          services = r.0;
        } in
        let rest : drop b.0.1 bs ≡ pieces (λ i. service_bytes k (get_or t.0.1 i no_service)) n 0 = ended_bytes bs b.0.1 t.0.0 _ r.1 end.0 in
        let stands : bs ≡ bytes_of y = fa.2 ∙ ap (λ x. groups n ++ x) (fb.2 ∙ ap (λ x. groups k ++ x) rest) in
        subst (λ x. Within x × (bs ≡ bytes_of x)) end.1 (good, stands)

  entry_taken : (n : ℕ) → n ≤ 16 → TakesSlot bs 0 0 (entry_of bs (2 ^ n - 1)) groups (λ set. set < 2 ^ n)
  entry_taken n h at v rest g l e =
      let w = power n h in
      let f = field_taken at 0 (2 ^ n - 1) v rest (omega arith) (omega (arith, w.0)) (omega (arith, w.1)) l e in
      (f.0, ap (λ r. and_then r (λ p. Ok (p.1, p.0))) f.1, f.2, f.3)

  row_taken : (n k : ℕ) → n ≤ 16 → k ≤ 16 → TakesSlot bs [] zero_row (row_of bs k (2 ^ n - 1)) (row_bytes k) (RowWithin n k)
  row_taken n k h m at row rest g l e = filled_taken bs 0 0 (entry_of bs (2 ^ n - 1)) groups (λ set. set < 2 ^ n) (entry_taken n h) 16 k at row rest m g l e

  service_taken : (k : ℕ) → k ≤ 16 → TakesSlot bs no_service zero_service (service_of bs k) (service_bytes k) (ServiceWithin k)
  service_taken k m at x rest g l e =
      let n = x.states in
      let w = power n g.few_states in
      let a = field_taken at 1 16 n _ g.some_state g.few_states (omega (arith, g.few_states)) l (e ∙ sym (joins (groups n) (groups x.initial) (groups x.finals) _ rest)) in
      let b = field_taken a.0 0 (n - 1) x.initial _ (omega arith) (omega (arith, g.initial)) (omega (arith, g.initial, g.few_states)) a.3 a.2 in
      let f = field_taken b.0 0 (2 ^ n - 1) x.finals _ (omega arith) (omega (arith, g.finals)) (omega (arith, g.finals, w.1)) b.3 b.2 in
      let t = filled_taken bs [] zero_row (row_of bs k (2 ^ n - 1)) (row_bytes k) (RowWithin n k) (row_taken n k g.few_states m) 16 n f.0 x.entries rest g.few_states g.entries f.3 f.2 in (
        t.0,
        goes (field bs at 1 16) _ (n, a.0) (t.0, x) a.1 (goes (field bs a.0 0 (n - 1)) _ (x.initial, b.0) (t.0, x) b.1 (goes (field bs b.0 0 (2 ^ n - 1)) _ (x.finals, f.0) (t.0, x) f.1 (goes (table_of bs n k (2 ^ n - 1) f.0 (replicate 16 zero_row)) _ (t.0, x.entries) (t.0, x) t.1 (refl {a = Ok (t.0, x)})))),
        t.2,
        t.3,
      )

  file_taken : (c : Contents) → Within c → bs ≡ bytes_of c → file_of bs ≡ Ok c
  file_taken c g e =
      let n = c.count in
      let k = c.actions in
      let a = field_taken 0 1 8 n _ g.some_service g.few_services (omega (arith, g.few_services)) (omega arith) e in
      let b = field_taken a.0 1 16 k _ g.some_action g.few_actions (omega (arith, g.few_actions)) a.3 a.2 in
      let t = filled_taken bs no_service zero_service (service_of bs k) (service_bytes k) (ServiceWithin k) (service_taken k g.few_actions) 8 n b.0 c.services [] g.few_services g.services b.3 (b.2 ∙ sym (append-nil _)) in
      let none : length bs - t.0 ≡ 0 = sym (length-drop t.0 bs) ∙ ap length t.2 in
      let all : ltb t.0 (length bs) ≡ false = le-ltb t.0 (length bs) (omega arith) in
      goes (field bs 0 1 8) _ (n, a.0) c a.1 (goes (field bs a.0 1 16) _ (k, b.0) c b.1 (goes (services_of bs n k b.0 (replicate 8 zero_service)) _ (t.0, c.services) c t.1 (cond-false _ _ _ all)))

-- of bytes, both ways
pub services_law : (bs : List ℕ) → Bytes bs → ServicesLaw bs
services_law bs bytes = record { accepted = file_read bs bytes; accepts = file_taken bs }

pub services_lawful : (bs : List ℕ) → Bytes bs → ServicesLawful bs
services_lawful bs bytes c e = file_lawful c (file_read bs bytes c e).0
