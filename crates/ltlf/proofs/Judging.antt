-- Steps of the verdict on a text.
use Rattle.std.proofs.Common.{◌≡◌, ℕ, zero, suc, ◌+◌, ◌<◌, ◌≤◌, true, false, List, ◌∷◌, length, get_or, drop, Some, None, Err, sym, ap, ◌∙◌, add-one, arith, length-drop, get_or-drop}
use Rattle.std.specs.List.{prefix_len}
use Rattle.std.proofs.lemmas.List.{drop_more}
use Rattle.std.proofs.lemmas.List.Sums.{prefix_len-le-length, prefix_len_passes, prefix_len_stops}
use Rattle.std.proofs.lemmas.Bool.{cond-true, cond-false}
use Rattle.wire.specs.declared.refusal.Cause.{Cause}
use Rattle.wire.specs.Refusals.{refused}
use Rattle.ltlf.specs.Prefix.{Seen, node_of, blank, strip, fault_of, after, unless, judge}
use Rattle.ltlf.specs.Steps.{Skipped}

-- what stands at place i of the text: a blank, a sign, or nothing
module _ (bs : List ℕ) (i : ℕ) where
  module _ (lt : i < length bs) where
    pub blank_text : blank (get_or bs i 0) ≡ true → strip (drop i bs) ≡ strip (drop (i + 1) bs)
    blank_text h = ap strip (drop_more bs i 0 lt) ∙ cond-true (blank (get_or bs i 0)) _ _ h

    pub blank_verdict : blank (get_or bs i 0) ≡ true → (k : ℕ) (s : Seen) → judge k s i (drop i bs) ≡ judge k s (i + 1) (drop (i + 1) bs)
    blank_verdict h k s =
        ap (judge k s i) (drop_more bs i 0 lt) ∙ cond-true (blank (get_or bs i 0)) _ _ h
        ∙ ap (λ n. judge k s n (drop (i + 1) bs)) (sym (add-one i))

    module _ (h : blank (get_or bs i 0) ≡ false) where
      pub sign_text : strip (drop i bs) ≡ get_or bs i 0 ∷ strip (drop (i + 1) bs)
      sign_text = ap strip (drop_more bs i 0 lt) ∙ cond-false (blank (get_or bs i 0)) _ _ h

      sign_here : (k : ℕ) (s : Seen) → judge k s i (drop i bs) ≡ unless (fault_of k s (node_of (get_or bs i 0) (suc s.signs))) i (judge k (after s (node_of (get_or bs i 0) (suc s.signs))) (i + 1) (drop (i + 1) bs))
      sign_here k s =
          ap (judge k s i) (drop_more bs i 0 lt) ∙ cond-false (blank (get_or bs i 0)) _ _ h
          ∙ ap (λ n. unless (fault_of k s (node_of (get_or bs i 0) (suc s.signs))) i (judge k (after s (node_of (get_or bs i 0) (suc s.signs))) n (drop (i + 1) bs))) (sym (add-one i))

      pub sign_refused : (k : ℕ) (s : Seen) (e : Cause) → fault_of k s (node_of (get_or bs i 0) (suc s.signs)) ≡ Some e → judge k s i (drop i bs) ≡ Err (refused e i)
      sign_refused k s e p = sign_here k s ∙ ap (λ f. unless f i (judge k (after s (node_of (get_or bs i 0) (suc s.signs))) (i + 1) (drop (i + 1) bs))) p

      pub sign_taken : (k : ℕ) (s : Seen) → fault_of k s (node_of (get_or bs i 0) (suc s.signs)) ≡ None → judge k s i (drop i bs) ≡ judge k (after s (node_of (get_or bs i 0) (suc s.signs))) (i + 1) (drop (i + 1) bs)
      sign_taken k s p = sign_here k s ∙ ap (λ f. unless f i (judge k (after s (node_of (get_or bs i 0) (suc s.signs))) (i + 1) (drop (i + 1) bs))) p

-- from place i on, m blanks are passed over
past_blanks : (bs : List ℕ) (i m : ℕ) → m ≤ prefix_len blank (drop i bs) → (strip (drop i bs) ≡ strip (drop (i + m) bs)) × ((k : ℕ) (s : Seen) → judge k s i (drop i bs) ≡ judge k s (i + m) (drop (i + m) bs))
past_blanks bs i zero l =
    let here : i ≡ i + 0 = omega arith in
    (ap (λ n. strip (drop n bs)) here, λ k s. ap (λ n. judge k s n (drop n bs)) here)
past_blanks bs i (suc m) l =
    let before = past_blanks bs i m (omega (arith, l)) in
    let lt : i + m < length bs = omega (arith, l, prefix_len-le-length blank (drop i bs), length-drop i bs) in
    let h : blank (get_or bs (i + m) 0) ≡ true = ap blank (sym (get_or-drop i bs m 0)) ∙ prefix_len_passes blank (drop i bs) m 0 (omega (arith, l)) in
    let next : i + m + 1 ≡ i + suc m = omega arith in (
      before.0 ∙ blank_text bs (i + m) lt h ∙ ap (λ n. strip (drop n bs)) next,
      λ k s. before.1 k s ∙ blank_verdict bs (i + m) lt h k s ∙ ap (λ n. judge k s n (drop n bs)) next,
    )

pub skipped : (bs : List ℕ) (i n : ℕ) → i ≤ length bs → n ≡ prefix_len blank (drop i bs) → Skipped bs i (i + n)
skipped bs i n l e =
    let past = past_blanks bs i n (omega (arith, e)) in
    let many = prefix_len-le-length blank (drop i bs) in record {
      within = omega (arith, l, e, many, length-drop i bs);
      same_text = past.0;
      same_verdict = past.1;
      stops = λ lt.
          ap blank (sym (get_or-drop i bs n 0)) ∙ ap (λ m. blank (get_or (drop i bs) m 0)) e
          ∙ prefix_len_stops blank (drop i bs) 0 (omega (arith, lt, e, length-drop i bs));
    }
