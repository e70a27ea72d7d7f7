-- The text of a formula within the limits is accepted, and it is the text of no other formula.
use Rattle.std.proofs.Common.{◌≡◌, ℕ, zero, suc, ◌+◌, ◌<◌, ◌≤◌, Bool, true, false, cond, ◌&&◌, leb, List, [], ◌∷◌, ◌++◌, Some, None, Ok, Err, Option, Result, sym, refl, ap, ◌∙◌, append_assoc, append-nil, arith}
use mathlib.Core.List.{head-eq_of_cons-eq, tail-eq_of_cons-eq}
use Rattle.std.proofs.lemmas.Bool.Decides.{nat_tests}
use Rattle.std.proofs.lemmas.Bool.{lt-leb}
use Rattle.wire.specs.declared.refusal.Cause.{Cause}
use Rattle.wire.specs.declared.refusal.Cause.TheVariants as cause
use Rattle.wire.specs.declared.refusal.Refusal.{Refusal}
use Rattle.wire.specs.Refusals.{refused}
use Rattle.ltlf.specs.Nodes.{temporal}
use Rattle.ltlf.specs.declared.node.Node.{Node}
use Rattle.ltlf.specs.declared.node.Node.TheVariants as node
use Rattle.ltlf.specs.declared.reader.Operands.{Operands}
use Rattle.ltlf.specs.declared.reader.Operands.TheVariants as operands
use Rattle.ltlf.specs.Formula.{Formula, letter, neg, next, weak_next, eventually, always, conj, disj, implies, until, release, print, size, levels, temporals, Letters, Fits}
use Rattle.ltlf.specs.Prefix.{Seen, sign_node, node_of, blank, strip, beyond, limit, fault_of, unless, after, owing, operands_of, ended, judge, start, in_range, verdict, cause_of, TextLaw}

-- what has been seen, as in the verdict
abbrev at : ℕ → ℕ → List ℕ → Seen
at n t ds = record { signs = n; temporals = t; owed = ds }

-- blanks before a sign change nothing
module _ (k : ℕ) (s : Seen) (b : ℕ) (more : List ℕ) where
  -- the verdict at the sign b, which stands at place j before cs
  abbrev SignNext : ℕ → List ℕ → Type 0
  SignNext i bs =
      (cs : List ℕ) × (j : ℕ) × (strip cs ≡ more)
      × (judge k s i bs ≡ unless (fault_of k s (node_of b (suc s.signs))) j (judge k (after s (node_of b (suc s.signs))) (suc j) cs))

  sign_next : (bs : List ℕ) (i : ℕ) → strip bs ≡ b ∷ more → SignNext i bs
  sign_next [] i e = absurd (none_first e) where
    none_first : [] ≡ b ∷ more → ⊥
    none_first h = let z : ◌≡◌ {A = ℕ} 0 1 = cc in omega arith
  sign_next (c ∷ bs) i e = go (blank c) refl (sign_next bs (suc i)) e where
    go : (a : Bool) → blank c ≡ a → (strip bs ≡ b ∷ more → SignNext (suc i) bs) → cond a (strip bs) (c ∷ strip bs) ≡ b ∷ more → (cs : List ℕ) × (j : ℕ) × (strip cs ≡ more) × (cond a (judge k s (suc i) bs) (unless (fault_of k s (node_of c (suc s.signs))) i (judge k (after s (node_of c (suc s.signs))) (suc i) bs)) ≡ unless (fault_of k s (node_of b (suc s.signs))) j (judge k (after s (node_of b (suc s.signs))) (suc j) cs))
    go true p later h = later h
    go false p later h = (bs, i, tail-eq_of_cons-eq h, ap (λ x. unless (fault_of k s (node_of x (suc s.signs))) i (judge k (after s (node_of x (suc s.signs))) (suc i) bs)) (head-eq_of_cons-eq h))

no_limit : (k n t d : ℕ) (x : Node) → beyond k x ≡ false → n < 64 → d ≤ 16 → t + cond (temporal x) 1 0 ≤ 7 → limit k n t d x ≡ None
no_limit k n t d x l r h f = grind (arith, nat_tests)

-- a formula f at level d, behind n signs of which t are temporal, is read to its end
abbrev Runs : ℕ → ℕ → ℕ → ℕ → List ℕ → Formula → List ℕ → ℕ → List ℕ → Type 0
Runs k n t d ds f more i bs =
    (cs : List ℕ) × (j : ℕ) × (strip cs ≡ more)
    × (judge k (at n t (d ∷ ds)) i bs ≡ judge k (at (n + size f) (t + temporals f) ds) j cs)

-- a sign x, of the byte b, that breaks no limit
module _ (k b n t d : ℕ) (x : Node) (is : node_of b (suc n) ≡ Some x) (l : beyond k x ≡ false) (r : n < 64) (h : d ≤ 16) (f : t + cond (temporal x) 1 0 ≤ 7) (ds : List ℕ) where
  taken : (rest : List ℕ) (bs : List ℕ) (i : ℕ) → strip bs ≡ b ∷ rest → (cs : List ℕ) × (j : ℕ) × (strip cs ≡ rest) × (judge k (at n t (d ∷ ds)) i bs ≡ judge k (at (suc n) (t + cond (temporal x) 1 0) (owing (operands_of x) d ds)) j cs)
  taken rest bs i e =
      let s = at n t (d ∷ ds) in
      let w = sign_next k s b rest bs i e in
      (w.0, suc w.1, w.2, w.3 ∙ ap (λ o. unless (fault_of k s o) w.1 (judge k (after s o) (suc w.1) w.0)) is ∙ ap (λ o. unless o w.1 (judge k (after s (Some x)) (suc w.1) w.0)) (no_limit k n t d x l r h f))

  -- the states that the operands leave, with counts written as for the whole
  moved : (m u : ℕ) (n' t' : ℕ) → m ≡ n' → u ≡ t' → (j : ℕ) (cs : List ℕ) → judge k (at m u ds) j cs ≡ judge k (at n' t' ds) j cs
  moved m u n' t' p q j cs = λ i. judge k (at (p i) (q i) ds) j cs

  letter_runs : (g : Formula) → operands_of x ≡ operands.Zero → size g ≡ 1 → temporals g ≡ cond (temporal x) 1 0 → (more bs : List ℕ) (i : ℕ) → strip bs ≡ b ∷ more → Runs k n t d ds g more i bs
  letter_runs g o one count more bs i e =
      let w = taken more bs i e in
      (w.0, w.1, w.2, w.3 ∙ ap (λ a. judge k (at (suc n) (t + cond (temporal x) 1 0) (owing a d ds)) w.1 w.0) o ∙ moved _ _ _ _ (omega (arith, one)) (omega (arith, count)) w.1 w.0)

  one_runs : (f' g : Formula) → operands_of x ≡ operands.One → size g ≡ suc (size f') → temporals g ≡ temporals f' + cond (temporal x) 1 0 → (more : List ℕ) → ((bs : List ℕ) (i : ℕ) → strip bs ≡ print f' ++ more → Runs k (suc n) (t + cond (temporal x) 1 0) (suc d) ds f' more i bs) → (bs : List ℕ) (i : ℕ) → strip bs ≡ b ∷ (print f' ++ more) → Runs k n t d ds g more i bs
  one_runs f' g o many count more run bs i e =
      let w = taken (print f' ++ more) bs i e in
      let v = run w.0 w.1 w.2 in (
        v.0,
        v.1,
        v.2,
        w.3 ∙ ap (λ a. judge k (at (suc n) (t + cond (temporal x) 1 0) (owing a d ds)) w.1 w.0) o
            ∙ v.3 ∙ moved _ _ _ _ (omega (arith, many)) (omega (arith, count)) v.1 v.0,
      )

  two_runs : (f' f'' g : Formula) → operands_of x ≡ operands.Two → size g ≡ suc (size f' + size f'') → temporals g ≡ temporals f' + temporals f'' + cond (temporal x) 1 0 → (more : List ℕ) → ((bs : List ℕ) (i : ℕ) → strip bs ≡ print f' ++ (print f'' ++ more) → Runs k (suc n) (t + cond (temporal x) 1 0) (suc d) (suc d ∷ ds) f' (print f'' ++ more) i bs) → ((bs : List ℕ) (i : ℕ) → strip bs ≡ print f'' ++ more → Runs k (suc n + size f') (t + cond (temporal x) 1 0 + temporals f') (suc d) ds f'' more i bs) → (bs : List ℕ) (i : ℕ) → strip bs ≡ b ∷ ((print f' ++ print f'') ++ more) → Runs k n t d ds g more i bs
  two_runs f' f'' g o many count more run run' bs i e =
      let w = taken (print f' ++ (print f'' ++ more)) bs i (e ∙ ap (λ a. b ∷ a) (append_assoc (print f') (print f'') more)) in
      let v = run w.0 w.1 w.2 in
      let u = run' v.0 v.1 v.2 in (
        u.0,
        u.1,
        u.2,
        w.3 ∙ ap (λ a. judge k (at (suc n) (t + cond (temporal x) 1 0) (owing a d ds)) w.1 w.0) o
            ∙ v.3 ∙ u.3 ∙ moved _ _ _ _ (omega (arith, many)) (omega (arith, count)) u.1 u.0,
      )

letter_node : (a k i : ℕ) → a < k → k ≤ 16 → node_of (97 + a) i ≡ Some (node.Action a)
unfolding node_of
letter_node a k i l h = grind (arith, nat_tests)

-- every formula has a level
some_levels : (f : Formula) → 0 < levels f
some_levels (letter a) = omega arith
some_levels (neg f) = omega arith
some_levels (next f) = omega arith
some_levels (weak_next f) = omega arith
some_levels (eventually f) = omega arith
some_levels (always f) = omega arith
some_levels (conj f g) = omega arith
some_levels (disj f g) = omega arith
some_levels (implies f g) = omega arith
some_levels (until f g) = omega arith
some_levels (release f g) = omega arith

runs : (k : ℕ) → k ≤ 16 → (f : Formula) → Letters k f → (n t d : ℕ) (ds : List ℕ) → n + size f ≤ 64 → t + temporals f ≤ 7 → d + levels f ≤ 17 → (more bs : List ℕ) (i : ℕ) → strip bs ≡ print f ++ more → Runs k n t d ds f more i bs
unfolding node_of
runs k q (letter a) l n t d ds r u h more bs i e =
    letter_runs k (97 + a) n t d (node.Action a) (letter_node a k (suc n) l q) (lt-leb k a l) (omega arith) (omega arith) (omega arith) ds (letter a) refl refl refl more bs i e
runs k q (neg f) l n t d ds r u h more bs i e =
    one_runs k 33 n t d (node.Not (suc n)) refl refl (omega arith) (omega (arith, some_levels f)) (omega arith) ds f (neg f) refl refl (omega arith) more
    (λ bs' i' e'. runs k q f l (suc n) (t + 0) (suc d) ds (omega arith) (omega arith) (omega arith) more bs' i' e') bs i e
runs k q (next f) l n t d ds r u h more bs i e =
    one_runs k 88 n t d (node.Next (suc n)) refl refl (omega arith) (omega (arith, some_levels f)) (omega arith) ds f (next f) refl refl (omega arith) more
    (λ bs' i' e'. runs k q f l (suc n) (t + 1) (suc d) ds (omega arith) (omega arith) (omega arith) more bs' i' e') bs i e
runs k q (weak_next f) l n t d ds r u h more bs i e =
    one_runs k 78 n t d (node.WeakNext (suc n)) refl refl (omega arith) (omega (arith, some_levels f)) (omega arith) ds f (weak_next f) refl refl (omega arith) more
    (λ bs' i' e'. runs k q f l (suc n) (t + 1) (suc d) ds (omega arith) (omega arith) (omega arith) more bs' i' e') bs i e
runs k q (eventually f) l n t d ds r u h more bs i e =
    one_runs k 70 n t d (node.Eventually (suc n)) refl refl (omega arith) (omega (arith, some_levels f)) (omega arith) ds f (eventually f) refl refl (omega arith) more
    (λ bs' i' e'. runs k q f l (suc n) (t + 1) (suc d) ds (omega arith) (omega arith) (omega arith) more bs' i' e') bs i e
runs k q (always f) l n t d ds r u h more bs i e =
    one_runs k 71 n t d (node.Always (suc n)) refl refl (omega arith) (omega (arith, some_levels f)) (omega arith) ds f (always f) refl refl (omega arith) more
    (λ bs' i' e'. runs k q f l (suc n) (t + 1) (suc d) ds (omega arith) (omega arith) (omega arith) more bs' i' e') bs i e
runs k q (conj f g) l n t d ds r u h more bs i e =
    two_runs k 38 n t d (node.And (suc n) 0) refl refl (omega arith) (omega (arith, some_levels f)) (omega arith) ds f g (conj f g) refl refl (omega arith) more
    (λ bs' i' e'. runs k q f l.0 (suc n) (t + 0) (suc d) (suc d ∷ ds) (omega arith) (omega arith) (omega arith) (print g ++ more) bs' i' e')
    (λ bs' i' e'. runs k q g l.1 (suc n + size f) (t + 0 + temporals f) (suc d) ds (omega arith) (omega arith) (omega arith) more bs' i' e') bs i e
runs k q (disj f g) l n t d ds r u h more bs i e =
    two_runs k 124 n t d (node.Or (suc n) 0) refl refl (omega arith) (omega (arith, some_levels f)) (omega arith) ds f g (disj f g) refl refl (omega arith) more
    (λ bs' i' e'. runs k q f l.0 (suc n) (t + 0) (suc d) (suc d ∷ ds) (omega arith) (omega arith) (omega arith) (print g ++ more) bs' i' e')
    (λ bs' i' e'. runs k q g l.1 (suc n + size f) (t + 0 + temporals f) (suc d) ds (omega arith) (omega arith) (omega arith) more bs' i' e') bs i e
runs k q (implies f g) l n t d ds r u h more bs i e =
    two_runs k 62 n t d (node.Implies (suc n) 0) refl refl (omega arith) (omega (arith, some_levels f)) (omega arith) ds f g (implies f g) refl refl (omega arith) more
    (λ bs' i' e'. runs k q f l.0 (suc n) (t + 0) (suc d) (suc d ∷ ds) (omega arith) (omega arith) (omega arith) (print g ++ more) bs' i' e')
    (λ bs' i' e'. runs k q g l.1 (suc n + size f) (t + 0 + temporals f) (suc d) ds (omega arith) (omega arith) (omega arith) more bs' i' e') bs i e
runs k q (until f g) l n t d ds r u h more bs i e =
    two_runs k 85 n t d (node.Until (suc n) 0) refl refl (omega arith) (omega (arith, some_levels f)) (omega arith) ds f g (until f g) refl refl (omega arith) more
    (λ bs' i' e'. runs k q f l.0 (suc n) (t + 1) (suc d) (suc d ∷ ds) (omega arith) (omega arith) (omega arith) (print g ++ more) bs' i' e')
    (λ bs' i' e'. runs k q g l.1 (suc n + size f) (t + 1 + temporals f) (suc d) ds (omega arith) (omega arith) (omega arith) more bs' i' e') bs i e
runs k q (release f g) l n t d ds r u h more bs i e =
    two_runs k 82 n t d (node.Release (suc n) 0) refl refl (omega arith) (omega (arith, some_levels f)) (omega arith) ds f g (release f g) refl refl (omega arith) more
    (λ bs' i' e'. runs k q f l.0 (suc n) (t + 1) (suc d) (suc d ∷ ds) (omega arith) (omega arith) (omega arith) (print g ++ more) bs' i' e')
    (λ bs' i' e'. runs k q g l.1 (suc n + size f) (t + 1 + temporals f) (suc d) ds (omega arith) (omega arith) (omega arith) more bs' i' e') bs i e

-- nothing but blanks is left
blanks_end : (k n t : ℕ) (bs : List ℕ) (i : ℕ) → strip bs ≡ [] → judge k (at n t []) i bs ≡ Ok tt
blanks_end k n t [] i e = refl
blanks_end k n t (b ∷ bs) i e = go (blank b) (blanks_end k n t bs (suc i)) e where
  go : (a : Bool) → (strip bs ≡ [] → judge k (at n t []) (suc i) bs ≡ Ok tt) → cond a (strip bs) (b ∷ strip bs) ≡ [] → cond a (judge k (at n t []) (suc i) bs) (unless (fault_of k (at n t []) (node_of b (suc n))) i (judge k (after (at n t []) (node_of b (suc n))) (suc i) bs)) ≡ Ok tt
  go true later h = later h
  go false later h = let z : ◌≡◌ {A = ℕ} 0 1 = cc in absurd (omega arith)

accepts : (k : ℕ) (bs : List ℕ) (f : Formula) → Fits k f → strip bs ≡ print f → verdict k bs ≡ Ok tt
accepts k bs f w e =
    let r = runs k w.few_actions f w.letters 0 0 1 [] (omega (arith, w.few_signs)) (omega (arith, w.few_temporals)) (omega (arith, w.few_levels)) [] bs 0 (e ∙ sym (append-nil (print f))) in
    let in_range_lem : (leb 1 k && leb k 16) ≡ true = grind (arith, nat_tests, w.some_actions, w.few_actions) in
    ap (λ a. cond a (judge k start 0 bs) (Err (refused cause.ActionsOutOfRange 0))) in_range_lem ∙ r.3 ∙ blanks_end k _ _ r.0 r.1 r.2

-- A text leads back to its formula: the formula at its front, and what follows, within so many signs.
abbrev formed : Node → Formula → Formula → Formula
formed (node.Action a) f g = letter a
formed (node.Not i) f g = neg f
formed (node.Next i) f g = next f
formed (node.WeakNext i) f g = weak_next f
formed (node.Eventually i) f g = eventually f
formed (node.Always i) f g = always f
formed (node.And i j) f g = conj f g
formed (node.Or i j) f g = disj f g
formed (node.Implies i j) f g = implies f g
formed (node.Until i j) f g = until f g
formed (node.Release i j) f g = release f g

abbrev Front : Type 0
Front = Option (Formula × List ℕ)

abbrev with_front : Front → (Formula → List ℕ → Front) → Front
with_front None h = None
with_front (Some p) h = h p.0 p.1

abbrev operands_front : (List ℕ → Front) → Operands → Node → List ℕ → Front
operands_front again operands.Zero x bs = Some (formed x (letter 0) (letter 0), bs)
operands_front again operands.One x bs = with_front (again bs) (λ f cs. Some (formed x f f, cs))
operands_front again operands.Two x bs = with_front (again bs) (λ f cs. with_front (again cs) (λ g es. Some (formed x f g, es)))

abbrev sign_front : (List ℕ → Front) → Option Node → List ℕ → Front
sign_front again None bs = None
sign_front again (Some x) bs = operands_front again (operands_of x) x bs

abbrev first_sign : (List ℕ → Front) → List ℕ → Front
first_sign again [] = None
first_sign again (b ∷ bs) = sign_front again (sign_node b 0) bs

abbrev front : ℕ → List ℕ → Front
front zero bs = None
front (suc m) bs = first_sign (front m) bs

letter_back : (k a : ℕ) → k ≤ 16 → a < k → sign_node (97 + a) 0 ≡ Some (node.Action a)
letter_back k a q l = grind (arith, nat_tests)

-- a sign is followed by its operands
module _ (again : List ℕ → Front) (f g : Formula) (more : List ℕ) where
  after_two : (c : Formula → Formula → Formula) → again (print f ++ (print g ++ more)) ≡ Some (f, print g ++ more) → again (print g ++ more) ≡ Some (g, more) → with_front (again ((print f ++ print g) ++ more)) (λ f' cs. with_front (again cs) (λ g' es. Some (c f' g', es))) ≡ Some (c f g, more)
  after_two c p q =
      ap (λ bs. with_front (again bs) (λ f' cs. with_front (again cs) (λ g' es. Some (c f' g', es)))) (append_assoc (print f) (print g) more)
      ∙ ap (λ o. with_front o (λ f' cs. with_front (again cs) (λ g' es. Some (c f' g', es)))) p
      ∙ ap (λ o. with_front o (λ g' es. Some (c f g', es))) q

front_of : (k : ℕ) → k ≤ 16 → (m : ℕ) (f : Formula) → Letters k f → size f ≤ m → (more : List ℕ) → front m (print f ++ more) ≡ Some (f, more)
front_of k q zero (letter a) l h more = absurd (omega arith)
front_of k q zero (neg f) l h more = absurd (omega arith)
front_of k q zero (next f) l h more = absurd (omega arith)
front_of k q zero (weak_next f) l h more = absurd (omega arith)
front_of k q zero (eventually f) l h more = absurd (omega arith)
front_of k q zero (always f) l h more = absurd (omega arith)
front_of k q zero (conj f g) l h more = absurd (omega arith)
front_of k q zero (disj f g) l h more = absurd (omega arith)
front_of k q zero (implies f g) l h more = absurd (omega arith)
front_of k q zero (until f g) l h more = absurd (omega arith)
front_of k q zero (release f g) l h more = absurd (omega arith)
front_of k q (suc m) (letter a) l h more = ap (λ o. sign_front (front m) o more) (letter_back k a q l)
front_of k q (suc m) (neg f) l h more = ap (λ o. with_front o (λ f' cs. Some (neg f', cs))) (front_of k q m f l (omega arith) more)
front_of k q (suc m) (next f) l h more = ap (λ o. with_front o (λ f' cs. Some (next f', cs))) (front_of k q m f l (omega arith) more)
front_of k q (suc m) (weak_next f) l h more = ap (λ o. with_front o (λ f' cs. Some (weak_next f', cs))) (front_of k q m f l (omega arith) more)
front_of k q (suc m) (eventually f) l h more = ap (λ o. with_front o (λ f' cs. Some (eventually f', cs))) (front_of k q m f l (omega arith) more)
front_of k q (suc m) (always f) l h more = ap (λ o. with_front o (λ f' cs. Some (always f', cs))) (front_of k q m f l (omega arith) more)
front_of k q (suc m) (conj f g) l h more = after_two (front m) f g more conj (front_of k q m f l.0 (omega arith) (print g ++ more)) (front_of k q m g l.1 (omega arith) more)
front_of k q (suc m) (disj f g) l h more = after_two (front m) f g more disj (front_of k q m f l.0 (omega arith) (print g ++ more)) (front_of k q m g l.1 (omega arith) more)
front_of k q (suc m) (implies f g) l h more = after_two (front m) f g more implies (front_of k q m f l.0 (omega arith) (print g ++ more)) (front_of k q m g l.1 (omega arith) more)
front_of k q (suc m) (until f g) l h more = after_two (front m) f g more until (front_of k q m f l.0 (omega arith) (print g ++ more)) (front_of k q m g l.1 (omega arith) more)
front_of k q (suc m) (release f g) l h more = after_two (front m) f g more release (front_of k q m f l.0 (omega arith) (print g ++ more)) (front_of k q m g l.1 (omega arith) more)

-- the formula at a front that was found
abbrev found : Formula → Front → Formula
found f None = f
found f (Some p) = p.0

one_formula : (k : ℕ) (bs : List ℕ) (f g : Formula) → Fits k f → Fits k g → strip bs ≡ print f → strip bs ≡ print g → f ≡ g
one_formula k bs f g v w p q =
    let m = size f + size g in
    let back = front_of k v.few_actions m f v.letters (omega arith) [] in
    let back' = front_of k w.few_actions m g w.letters (omega arith) [] in
    ap (found f) (sym back ∙ ap (λ t. front m (t ++ [])) (sym p ∙ q) ∙ back')

-- the cause is that of the text without blanks, wherever it stands
cause_strip : (k : ℕ) (s : Seen) (i j : ℕ) (bs : List ℕ) → cause_of (judge k s i bs) ≡ cause_of (judge k s j (strip bs))
cause_strip k s i j [] = go s.owed where
  go : (ds : List ℕ) → cause_of (ended ds i) ≡ cause_of (ended ds j)
  go [] = refl
  go (d ∷ ds) = refl
cause_strip k s i j (b ∷ bs) = go (blank b) refl (cause_strip k s (suc i) j bs) (λ o. cause_strip k (after s o) (suc i) (suc j) bs) where
  fault : (f : Option Cause) (x y : Result (Unit {0}) Refusal) → cause_of x ≡ cause_of y → cause_of (unless f i x) ≡ cause_of (unless f j y)
  fault None x y e = e
  fault (Some c) x y e = refl

  go : (a : Bool) → blank b ≡ a → cause_of (judge k s (suc i) bs) ≡ cause_of (judge k s j (strip bs)) → ((o : Option Node) → cause_of (judge k (after s o) (suc i) bs) ≡ cause_of (judge k (after s o) (suc j) (strip bs))) → cause_of (cond a (judge k s (suc i) bs) (unless (fault_of k s (node_of b (suc s.signs))) i (judge k (after s (node_of b (suc s.signs))) (suc i) bs))) ≡ cause_of (judge k s j (cond a (strip bs) (b ∷ strip bs)))
  go true p same onward = same
  go false p same onward =
      fault (fault_of k s (node_of b (suc s.signs))) _ _ (onward (node_of b (suc s.signs)))
      ∙ sym (ap (λ a. cause_of (cond a (judge k s (suc j) (strip bs)) (unless (fault_of k s (node_of b (suc s.signs))) j (judge k (after s (node_of b (suc s.signs))) (suc j) (strip bs))))) p)

blanks : (k : ℕ) (bs cs : List ℕ) → strip cs ≡ strip bs → cause_of (verdict k cs) ≡ cause_of (verdict k bs)
blanks k bs cs e = go (in_range k) where
  go : (a : Bool) → cause_of (cond a (judge k start 0 cs) (Err (refused cause.ActionsOutOfRange 0))) ≡ cause_of (cond a (judge k start 0 bs) (Err (refused cause.ActionsOutOfRange 0)))
  go true = cause_strip k start 0 0 cs ∙ ap (λ t. cause_of (judge k start 0 t)) e ∙ sym (cause_strip k start 0 0 bs)
  go false = refl

pub text_law : (k : ℕ) (bs : List ℕ) → TextLaw k bs
text_law k bs = record { accepts = accepts k bs; one_formula = one_formula k bs; blanks = blanks k bs }
