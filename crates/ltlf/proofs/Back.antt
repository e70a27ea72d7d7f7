-- The nodes of a formula mean that formula.
use Rattle.std.proofs.Common.{◌≡◌, ℕ, suc, ◌+◌, ◌-◌, ltb, List, [], ◌++◌, get_or, drop, sym, refl, ap, ◌∙◌, ap₂, append_assoc, append-nil, add-zero, add-one, arith, get_or-drop, drop-drop}
use Rattle.std.proofs.lemmas.Bool.{lt-ltb, cond-true}
use Rattle.ltlf.specs.declared.node.Node.{Node}
use Rattle.ltlf.specs.Formula.{Formula, letter, neg, next, weak_next, eventually, always, conj, disj, implies, until, release, size}
use Rattle.ltlf.specs.Nodes.{flat, falsum, behind, formulas, formula_of}

-- an operand at a distance m behind node n
at_distance : (n m : ℕ) (fs : List Formula) → behind n fs (suc n + m) ≡ get_or fs m falsum
at_distance n m fs =
    let gap : suc n + m - suc n ≡ m = omega arith in
    cond-true (ltb n (suc n + m)) _ _ (lt-ltb n (suc n + m) (omega arith)) ∙ ap (λ i. get_or fs i falsum) gap

next_one : (n : ℕ) (fs : List Formula) → behind n fs (suc n) ≡ get_or fs 0 falsum
next_one n fs = let same : suc n ≡ suc n + 0 = omega arith in ap (behind n fs) same ∙ at_distance n 0 fs

-- the formulas of f's nodes and of those behind begin with f, and go on with those behind
record Means (f : Formula) : Type 0 where
  first : (n : ℕ) (xs : List Node) → get_or (formulas n (flat n f ++ xs)) 0 falsum ≡ f
  later : (n : ℕ) (xs : List Node) → drop (size f) (formulas n (flat n f ++ xs)) ≡ formulas (n + size f) xs

-- the operands of a sign with two
module _ (f g : Formula) (mf : Means f) (mg : Means g) (n : ℕ) (xs : List Node) where
  abbrev rest : List Formula
  rest = formulas (suc n) ((flat (suc n) f ++ flat (suc n + size f) g) ++ xs)

  split : rest ≡ formulas (suc n) (flat (suc n) f ++ (flat (suc n + size f) g ++ xs))
  split = ap (formulas (suc n)) (append_assoc (flat (suc n) f) (flat (suc n + size f) g) xs)

  left : behind n rest (suc n) ≡ f
  left = next_one n rest ∙ ap (λ fs. get_or fs 0 falsum) split ∙ mf.first (suc n) (flat (suc n + size f) g ++ xs)

  behind_left : drop (size f) rest ≡ formulas (suc n + size f) (flat (suc n + size f) g ++ xs)
  behind_left = ap (drop (size f)) split ∙ mf.later (suc n) (flat (suc n + size f) g ++ xs)

  right : behind n rest (suc n + size f) ≡ g
  right =
      at_distance n (size f) rest ∙ ap (λ m. get_or rest m falsum) (sym (add-zero (size f))) ∙ sym (get_or-drop (size f) rest 0 falsum)
      ∙ ap (λ fs. get_or fs 0 falsum) behind_left ∙ mg.first (suc n + size f) xs

  behind_both : drop (size f + size g) rest ≡ formulas (n + suc (size f + size g)) xs
  behind_both =
      let far : suc n + size f + size g ≡ n + suc (size f + size g) = omega arith in
      sym (drop-drop (size g) (size f) rest) ∙ ap (drop (size g)) behind_left ∙ mg.later (suc n + size f) xs ∙ ap (λ m. formulas m xs) far

-- a sign with one operand
module _ (f : Formula) (mf : Means f) (n : ℕ) (xs : List Node) where
  only : behind n (formulas (suc n) (flat (suc n) f ++ xs)) (suc n) ≡ f
  only = next_one n (formulas (suc n) (flat (suc n) f ++ xs)) ∙ mf.first (suc n) xs

  behind_only : drop (size f) (formulas (suc n) (flat (suc n) f ++ xs)) ≡ formulas (n + suc (size f)) xs
  behind_only = let far : suc n + size f ≡ n + suc (size f) = omega arith in mf.later (suc n) xs ∙ ap (λ m. formulas m xs) far

means : (f : Formula) → Means f
means (letter a) = record { first = λ n xs. refl; later = λ n xs. ap (λ m. formulas m xs) (sym (add-one n)) }
means (neg f) = record { first = λ n xs. ap neg (only f (means f) n xs); later = behind_only f (means f) }
means (next f) = record { first = λ n xs. ap next (only f (means f) n xs); later = behind_only f (means f) }
means (weak_next f) = record { first = λ n xs. ap weak_next (only f (means f) n xs); later = behind_only f (means f) }
means (eventually f) = record { first = λ n xs. ap eventually (only f (means f) n xs); later = behind_only f (means f) }
means (always f) = record { first = λ n xs. ap always (only f (means f) n xs); later = behind_only f (means f) }
means (conj f g) = record { first = λ n xs. ap₂ conj (left f g (means f) (means g) n xs) (right f g (means f) (means g) n xs); later = behind_both f g (means f) (means g) }
means (disj f g) = record { first = λ n xs. ap₂ disj (left f g (means f) (means g) n xs) (right f g (means f) (means g) n xs); later = behind_both f g (means f) (means g) }
means (implies f g) = record { first = λ n xs. ap₂ implies (left f g (means f) (means g) n xs) (right f g (means f) (means g) n xs); later = behind_both f g (means f) (means g) }
means (until f g) = record { first = λ n xs. ap₂ until (left f g (means f) (means g) n xs) (right f g (means f) (means g) n xs); later = behind_both f g (means f) (means g) }
means (release f g) = record { first = λ n xs. ap₂ release (left f g (means f) (means g) n xs) (right f g (means f) (means g) n xs); later = behind_both f g (means f) (means g) }

pub formula_back : (f : Formula) → formula_of (flat 0 f) ≡ f
formula_back f = ap formula_of (sym (append-nil (flat 0 f))) ∙ (means f).first 0 []
