-- What taking one sign does to the verdict.
use Rattle.std.proofs.Common.{◌≡◌, ℕ, suc, ◌+◌, ◌-◌, ◌<◌, ◌≤◌, Bool, true, false, cond, List, ◌∷◌, length, get_or, drop, Some, None, Err, Option, sym, refl, ap, ◌∙◌, subst, add-one, arith}
use Rattle.std.proofs.lemmas.Bool.Decides.{nat_tests}
use Rattle.wire.specs.declared.refusal.Cause.{Cause}
use Rattle.wire.specs.declared.refusal.Cause.TheVariants as cause
use Rattle.wire.specs.Refusals.{refused}
use Rattle.ltlf.specs.Nodes.{temporal}
use Rattle.ltlf.specs.declared.node.Node.{Node}
use Rattle.ltlf.specs.declared.reader.Progress.{Progress}
use Rattle.ltlf.specs.Prefix.{sign_node, node_of, strip, beyond, limit, fault_of, after, judge, owing, operands_of}
use Rattle.ltlf.specs.Steps.{Skipped, Taken, seen, next_verdict}
use Rattle.ltlf.proofs.Judging.{sign_text, sign_refused, sign_taken}

-- a sign that breaks no limit
pub record Allowed (k n t d : ℕ) (x : Node) : Type 0 where
  pub letter : beyond k x ≡ false
  pub room : n < 64
  pub shallow : d ≤ 16
  pub few : temporal x ≡ true → t < 7

pub allowed : (k n t d : ℕ) (x : Node) → limit k n t d x ≡ None → Allowed k n t d x
allowed k n t d x h = record {
  letter = grind (arith, nat_tests);
  room = grind (arith, nat_tests);
  shallow = grind (arith, nat_tests);
  few = λ e. grind (arith, nat_tests);
}

still_few : (b : Bool) (t : ℕ) → t ≤ 7 → (b ≡ true → t < 7) → t + cond b 1 0 ≤ 7
still_few true t h f = omega (arith, f refl)
still_few false t h f = omega arith

pub of_byte : (b n : ℕ) (o : Option Node) → o ≡ sign_node b (n + 1) → node_of b (suc n) ≡ o
unfolding node_of
of_byte b n o e = ap (sign_node b) (sym (add-one n)) ∙ sym e

module _ (k : ℕ) (bs : List ℕ) (l n : ℕ) (p : Progress) (i : ℕ) (sk : Skipped bs p.at i) where
  module _ (lt : i < length bs) where
    pub unknown : node_of (get_or bs i 0) (suc n) ≡ None → (ds : List ℕ) → next_verdict k bs l n p ds ≡ Err (refused cause.UnknownByte i)
    unknown e ds =
        let s = seen p n ((17 - l) ∷ ds) in
        sk.same_verdict k s ∙ sign_refused bs i lt (sk.stops lt) k s cause.UnknownByte (ap (fault_of k s) e)

    pub breaks : (x : Node) (w : Cause) → node_of (get_or bs i 0) (suc n) ≡ Some x → limit k n p.temporals (17 - l) x ≡ Some w → (ds : List ℕ) → next_verdict k bs l n p ds ≡ Err (refused w i)
    breaks x w e b ds =
        let s = seen p n ((17 - l) ∷ ds) in
        sk.same_verdict k s ∙ sign_refused bs i lt (sk.stops lt) k s w (ap (fault_of k s) e ∙ b)

    pub takes : (x : Node) (q : Progress) → node_of (get_or bs i 0) (suc n) ≡ Some x → limit k n p.temporals (17 - l) x ≡ None → p.temporals ≤ 7 → q.at ≡ i + 1 → q.temporals ≡ p.temporals + cond (temporal x) 1 0 → Taken k bs l n p q x
    takes x q e b few at count =
        let a = allowed k n p.temporals (17 - l) x b in
        record {
          some_level = omega (arith, a.shallow);
          room = a.room;
          within = omega arith;
          few_temporals = subst (λ m. m ≤ 7) (sym count) (still_few (temporal x) p.temporals few a.few);
          counted = count;
          letter = a.letter;
          byte = get_or bs i 0;
          is = e;
          text = sk.same_text ∙ sign_text bs i lt (sk.stops lt) ∙ ap (λ m. get_or bs i 0 ∷ strip (drop m bs)) (sym at);
          verdict = λ ds.
              let s = seen p n ((17 - l) ∷ ds) in
              sk.same_verdict k s
              ∙ sign_taken bs i lt (sk.stops lt) k s (ap (fault_of k s) e ∙ b)
              ∙ ap (λ o. judge k (after s o) (i + 1) (drop (i + 1) bs)) e
              ∙ (λ j. judge k (record { signs = suc n; temporals = sym count j; owed = owing (operands_of x) (17 - l) ds }) (sym at j) (drop (sym at j) bs));
        }
