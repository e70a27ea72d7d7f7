-- A number at a place, and the bytes that stand there.
use Rattle.std.proofs.Common.{◌≡◌, ℕ, ◌+◌, ◌-◌, ◌<◌, ◌≤◌, List, [], ◌∷◌, ◌++◌, length, get_or, drop, Ok, sym, refl, ap, ◌∙◌, subst, ⊎_elim, arith, length-append, length-drop}
use Rattle.std.proofs.lemmas.List.{drop-drop, drop_at, get_or-drop}
use Rattle.std.proofs.lemmas.Bool.Decides.{nat_tests}
use Rattle.std.proofs.lemmas.Bool.{cases_lt}
use Rattle.wire.specs.Number.{read_number, Reading, value, refusal, groups, placed, number_at}
use Rattle.wire.proofs.Groups.{round_trip}

-- every byte is below 256
abbrev pub Bytes : List ℕ → Type 0
Bytes xs = (i : ℕ) → get_or xs i 0 < 256

-- what is read is what is written
pub form : (xs : List ℕ) (v : ℕ) (ys : List ℕ) → Bytes xs → read_number xs ≡ value v ys → (v ≤ 65535) × (xs ≡ groups v ++ ys)
form [] v ys b e = absurd (let z : ◌≡◌ {A = ℕ} 0 1 = cc in omega arith)
form (a ∷ []) v ys b e = let f = b 0 in (grind (arith, nat_tests), grind (arith, nat_tests))
form (a ∷ b ∷ []) v ys h e = let f = h 0 in let g = h 1 in (grind (arith, nat_tests), grind (arith, nat_tests))
form (a ∷ b ∷ c ∷ cs) v ys h e = let f = h 0 in let g = h 1 in (grind (arith, nat_tests), grind (arith, nat_tests))

placed_value : (bs : List ℕ) (at : ℕ) (r : Reading) (v next : ℕ) → placed bs at r ≡ Ok (v, next) → (ys : List ℕ) × (r ≡ value v ys) × (next ≡ length bs - length ys)
placed_value bs at (value w ys) v next e =
    let q : ◌≡◌ {A = ℕ × ℕ} (w, length bs - length ys) (v, next) = cc in
    (ys, ap (λ (p : ℕ × ℕ). value p.0 ys) q, sym (ap (λ (p : ℕ × ℕ). p.1) q))
placed_value bs at (refusal c) v next e = absurd (let z : ◌≡◌ {A = ℕ} 0 1 = cc in omega arith)

pub groups_some : (v : ℕ) → 1 ≤ length (groups v)
groups_some v = ⊎_elim (λ l. grind (arith, nat_tests)) (λ g. ⊎_elim (λ l. grind (arith, nat_tests)) (λ l. grind (arith, nat_tests)) (cases_lt v 16384)) (cases_lt v 128)

-- where the bytes at a place are those of v and then ys
pub record Stands (bs : List ℕ) (at v : ℕ) (ys : List ℕ) : Type 0 where
  pub within : at + length (groups v) + length ys ≡ length bs
  pub after : drop (at + length (groups v)) bs ≡ ys

pub stands : (bs : List ℕ) (at v : ℕ) (ys : List ℕ) → at ≤ length bs → drop at bs ≡ groups v ++ ys → Stands bs at v ys
stands bs at v ys h e =
    let l = length-drop at bs in
    let a = length-append (groups v) ys in
    record {
      within = omega (arith, l, a, ap length e);
      after = sym (drop-drop (length (groups v)) at bs) ∙ ap (drop (length (groups v))) e ∙ drop_at (groups v) ys (length (groups v)) refl;
    }

-- a number that was read stands there
pub number_form : (bs : List ℕ) (at v next : ℕ) → Bytes bs → number_at bs at ≡ Ok (v, next) → (v ≤ 65535) × (at < next) × (next ≤ length bs) × (drop at bs ≡ groups v ++ drop next bs) × (next ≡ at + length (groups v))
unfolding number_at
number_form bs at v next b e =
    let w = placed_value bs at (read_number (drop at bs)) v next e in
    let ys = w.0 in
    let f = form (drop at bs) v ys (λ i. subst (λ x. x < 256) (sym (get_or-drop at bs i 0)) (b (at + i))) w.1 in
    let l = length-drop at bs in
    let a = length-append (groups v) ys in
    let some = groups_some v in
    let d : length (drop at bs) ≡ length (groups v) + length ys = ap length f.1 ∙ a in
    let h : at ≤ length bs = omega (arith, l, d, some) in
    let s = stands bs at v ys h f.1 in
    let n : next ≡ at + length (groups v) = omega (arith, s.within, w.2) in
    (f.0, omega (arith, n, some), omega (arith, n, s.within), f.1 ∙ ap (λ t. groups v ++ t) (sym s.after ∙ ap (λ i. drop i bs) (sym n)), n)

-- a number that stands there is read
pub number_read : (bs : List ℕ) (at v : ℕ) (ys : List ℕ) → v ≤ 65535 → at ≤ length bs → drop at bs ≡ groups v ++ ys → (number_at bs at ≡ Ok (v, at + length (groups v))) × (drop (at + length (groups v)) bs ≡ ys) × (at + length (groups v) ≤ length bs)
unfolding number_at
number_read bs at v ys l h e =
    let s = stands bs at v ys h e in
    let n : length bs - length ys ≡ at + length (groups v) = omega (arith, s.within) in
    (ap (placed bs at) (ap read_number e ∙ round_trip v ys l) ∙ ap (λ (i : ℕ). Ok (v, i)) n, s.after, omega (arith, s.within))

-- the same, with the place counted from the end
pub number_read_end : (bs : List ℕ) (at v : ℕ) (ys : List ℕ) → v ≤ 65535 → at ≤ length bs → drop at bs ≡ groups v ++ ys → number_at bs at ≡ Ok (v, length bs - length ys)
unfolding number_at
number_read_end bs at v ys l h e = ap (placed bs at) (ap read_number e ∙ round_trip v ys l)
