-- Bytes written from a place on: they stand there, and all else is as it was.
use Rattle.std.proofs.Common.{◌≡◌, ℕ, ◌+◌, ◌<◌, ◌≤◌, ◌≢◌, List, [], ◌∷◌, ◌++◌, length, get_or, take, drop, set, IfOk, Ok, Err, Result, sym, refl, ap, ◌∙◌, add-zero, arith, length-set, get_or-set_other, get_or-set_same, drop-set-lt}
use lib.Seq.{take-set-le}
use borrow.Rule.Slice.PartMut.{put_mid}
use Rattle.std.proofs.lemmas.List.{drop_more, drop-drop, take-append-drop}
use Rattle.wire.specs.declared.refusal.Refusal.{Refusal}
use Rattle.wire.specs.Number.{largest, groups, put_at, Puts, Written}
use Rattle.wire.proofs.Numbers.{number_read}

length_put : (xs : List ℕ) (i : ℕ) (bs : List ℕ) → length (put_at xs i bs) ≡ length xs
length_put xs i [] = refl
length_put xs i (b ∷ bs) = length_put (set xs i b) (i + 1) bs ∙ length-set xs i b

take_put : (n : ℕ) (xs : List ℕ) (i : ℕ) (bs : List ℕ) → n ≤ i → take n (put_at xs i bs) ≡ take n xs
take_put n xs i [] h = refl
take_put n xs i (b ∷ bs) h = take_put n (set xs i b) (i + 1) bs (omega arith) ∙ take-set-le n xs i b h

drop_put : (n : ℕ) (xs : List ℕ) (i : ℕ) (bs : List ℕ) → i + length bs ≤ n → drop n (put_at xs i bs) ≡ drop n xs
drop_put n xs i [] h = refl
drop_put n xs i (b ∷ bs) h = drop_put n (set xs i b) (i + 1) bs (omega arith) ∙ drop-set-lt n xs i b (omega arith)

get_or_put : (k : ℕ) (xs : List ℕ) (i : ℕ) (bs : List ℕ) → k < i → get_or (put_at xs i bs) k 0 ≡ get_or xs k 0
get_or_put k xs i [] h = refl
get_or_put k xs i (b ∷ bs) h =
    let apart : k ≢ i = omega arith in
    get_or_put k (set xs i b) (i + 1) bs (omega arith) ∙ get_or-set_other xs i k b 0 apart

at_put : (xs : List ℕ) (i : ℕ) (bs : List ℕ) → i + length bs ≤ length xs → drop i (put_at xs i bs) ≡ bs ++ drop (i + length bs) xs
at_put xs i [] h = ap (λ m. drop m xs) (sym (add-zero i))
at_put xs i (b ∷ bs) h =
    let ys = put_at (set xs i b) (i + 1) bs in
    let long : i < length ys = omega (arith, length_put (set xs i b) (i + 1) bs, length-set xs i b) in
    let far : i + 1 + length bs ≡ i + length (b ∷ bs) = omega arith in
    drop_more ys i 0 long
    ∙ ap (λ x. x ∷ drop (i + 1) ys) (get_or_put i (set xs i b) (i + 1) bs (omega arith) ∙ get_or-set_same xs i b 0 (omega arith))
    ∙ ap (λ t. b ∷ t) (at_put (set xs i b) (i + 1) bs (omega (arith, length-set xs i b)) ∙ ap (λ t. bs ++ t) (drop-set-lt (i + 1 + length bs) xs i b (omega arith) ∙ ap (λ m. drop m xs) far))

-- a part of a list that was overwritten with as many bytes
pub overwritten : (xs ys bs : List ℕ) (at k : ℕ) → ys ≡ bs → k ≡ length bs → at + length bs ≤ length xs → put_mid at k xs ys ≡ put_at xs at bs
overwritten xs ys bs at k e p h =
    ap (λ l. take at xs ++ l) (λ i. e i ++ (drop-drop k at xs ∙ ap (λ m. drop (at + m) xs) p) i)
    ∙ sym (sym (take-append-drop at (put_at xs at bs)) ∙ (λ i. take_put at xs at bs (omega arith) i ++ at_put xs at bs h i))

pub written : (before after : List ℕ) (at n : ℕ) → n ≤ largest → (r : Result ℕ Refusal) → Puts before after at (groups n) r → IfOk r (λ e. Written before after at n e)
written before after at n h (Err e) p = tt
written before after at n h (Ok e) p =
    let fits : at + length (groups n) ≤ length before = omega (arith, p.0, p.1) in
    let as_long : length after ≡ length before = ap length p.2 ∙ length_put before at (groups n) in
    let stands = ap (drop at) p.2 ∙ at_put before at (groups n) fits in
    record {
      read_back = (number_read after at n (drop (at + length (groups n)) before) h (omega (arith, as_long, fits)) stands).0 ∙ ap (λ m. Ok (n, m)) (sym p.0);
      front = ap (take at) p.2 ∙ take_put at before at (groups n) (omega arith);
      rest = ap (drop e) p.2 ∙ drop_put e before at (groups n) (omega (arith, p.0));
    }
