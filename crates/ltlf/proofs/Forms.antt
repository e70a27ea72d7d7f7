-- A sign and the formulas of its operands make a formula.
use Rattle.std.proofs.Common.{◌≡◌, ℕ, suc, ◌+◌, max, false, cond, List, [], ◌∷◌, ◌++◌, length, Some, sym, refl, ap, ◌∙◌, ap₂, add_assoc, zero-add, arith, length-append}
use Rattle.std.proofs.lemmas.Bool.Decides.{nat_tests}
use Rattle.std.proofs.lemmas.Bool.{leb-false}
use Rattle.ltlf.specs.declared.node.Node.{Node}
use Rattle.ltlf.specs.declared.node.Node.TheVariants as node
use Rattle.ltlf.specs.declared.reader.Operands.{Operands}
use Rattle.ltlf.specs.declared.reader.Operands.TheVariants as operands
use Rattle.ltlf.specs.Formula.{Formula, letter, neg, next, weak_next, eventually, always, conj, disj, implies, until, release, print, size, levels, temporals, Letters}
use Rattle.ltlf.specs.Nodes.{flat, temporal, temporal_nodes}
use Rattle.ltlf.specs.Prefix.{node_of, operands_of, beyond}
use Rattle.ltlf.specs.Steps.{with_second}

-- the byte and the first operand's number of a node that a byte gives
abbrev pub Spelt : ℕ → ℕ → Node → Type 0
Spelt b i (node.Action a) = b ≡ 97 + a
Spelt b i (node.Not j) = (b ≡ 33) × (j ≡ i)
Spelt b i (node.Next j) = (b ≡ 88) × (j ≡ i)
Spelt b i (node.WeakNext j) = (b ≡ 78) × (j ≡ i)
Spelt b i (node.Eventually j) = (b ≡ 70) × (j ≡ i)
Spelt b i (node.Always j) = (b ≡ 71) × (j ≡ i)
Spelt b i (node.And j m) = (b ≡ 38) × (j ≡ i)
Spelt b i (node.Or j m) = (b ≡ 124) × (j ≡ i)
Spelt b i (node.Implies j m) = (b ≡ 62) × (j ≡ i)
Spelt b i (node.Until j m) = (b ≡ 85) × (j ≡ i)
Spelt b i (node.Release j m) = (b ≡ 82) × (j ≡ i)

pub spelt : (b i : ℕ) (x : Node) → node_of b i ≡ Some x → Spelt b i x
unfolding node_of
spelt b i (node.Action a) e = grind (arith, nat_tests)
spelt b i (node.Not j) e = grind (arith, nat_tests)
spelt b i (node.Next j) e = grind (arith, nat_tests)
spelt b i (node.WeakNext j) e = grind (arith, nat_tests)
spelt b i (node.Eventually j) e = grind (arith, nat_tests)
spelt b i (node.Always j) e = grind (arith, nat_tests)
spelt b i (node.And j m) e = grind (arith, nat_tests)
spelt b i (node.Or j m) e = grind (arith, nat_tests)
spelt b i (node.Implies j m) e = grind (arith, nat_tests)
spelt b i (node.Until j m) e = grind (arith, nat_tests)
spelt b i (node.Release j m) e = grind (arith, nat_tests)

-- as many nodes as signs
both_lengths : (xs ys : List Node) (m n : ℕ) → length xs ≡ m → length ys ≡ n → suc (length (xs ++ ys)) ≡ suc (m + n)
both_lengths xs ys m n p q = ap suc (length-append xs ys ∙ ap₂ ◌+◌ p q)

pub length_flat : (n : ℕ) (f : Formula) → length (flat n f) ≡ size f
length_flat n (letter a) = refl
length_flat n (neg f) = ap suc (length_flat (suc n) f)
length_flat n (next f) = ap suc (length_flat (suc n) f)
length_flat n (weak_next f) = ap suc (length_flat (suc n) f)
length_flat n (eventually f) = ap suc (length_flat (suc n) f)
length_flat n (always f) = ap suc (length_flat (suc n) f)
length_flat n (conj f g) = both_lengths (flat (suc n) f) (flat (suc n + size f) g) (size f) (size g) (length_flat (suc n) f) (length_flat (suc n + size f) g)
length_flat n (disj f g) = both_lengths (flat (suc n) f) (flat (suc n + size f) g) (size f) (size g) (length_flat (suc n) f) (length_flat (suc n + size f) g)
length_flat n (implies f g) = both_lengths (flat (suc n) f) (flat (suc n + size f) g) (size f) (size g) (length_flat (suc n) f) (length_flat (suc n + size f) g)
length_flat n (until f g) = both_lengths (flat (suc n) f) (flat (suc n + size f) g) (size f) (size g) (length_flat (suc n) f) (length_flat (suc n + size f) g)
length_flat n (release f g) = both_lengths (flat (suc n) f) (flat (suc n + size f) g) (size f) (size g) (length_flat (suc n) f) (length_flat (suc n + size f) g)

-- as many temporal nodes as temporal signs
temporal_join : (xs ys : List Node) → temporal_nodes (xs ++ ys) ≡ temporal_nodes xs + temporal_nodes ys
temporal_join [] ys = sym (zero-add (temporal_nodes ys))
temporal_join (x ∷ xs) ys = ap (λ m. cond (temporal x) 1 0 + m) (temporal_join xs ys) ∙ sym (add_assoc (cond (temporal x) 1 0) (temporal_nodes xs) (temporal_nodes ys))

both_temporal : (n m : ℕ) (f g : Formula) → temporal_nodes (flat n f) ≡ temporals f → temporal_nodes (flat m g) ≡ temporals g → temporal_nodes (flat n f ++ flat m g) ≡ temporals f + temporals g
both_temporal n m f g p q = temporal_join (flat n f) (flat m g) ∙ ap₂ ◌+◌ p q

pub temporal_flat : (n : ℕ) (f : Formula) → temporal_nodes (flat n f) ≡ temporals f
temporal_flat n (letter a) = refl
temporal_flat n (neg f) = omega (arith, temporal_flat (suc n) f)
temporal_flat n (next f) = omega (arith, temporal_flat (suc n) f)
temporal_flat n (weak_next f) = omega (arith, temporal_flat (suc n) f)
temporal_flat n (eventually f) = omega (arith, temporal_flat (suc n) f)
temporal_flat n (always f) = omega (arith, temporal_flat (suc n) f)
temporal_flat n (conj f g) = omega (arith, both_temporal (suc n) (suc n + size f) f g (temporal_flat (suc n) f) (temporal_flat (suc n + size f) g))
temporal_flat n (disj f g) = omega (arith, both_temporal (suc n) (suc n + size f) f g (temporal_flat (suc n) f) (temporal_flat (suc n + size f) g))
temporal_flat n (implies f g) = omega (arith, both_temporal (suc n) (suc n + size f) f g (temporal_flat (suc n) f) (temporal_flat (suc n + size f) g))
temporal_flat n (until f g) = omega (arith, both_temporal (suc n) (suc n + size f) f g (temporal_flat (suc n) f) (temporal_flat (suc n + size f) g))
temporal_flat n (release f g) = omega (arith, both_temporal (suc n) (suc n + size f) f g (temporal_flat (suc n) f) (temporal_flat (suc n + size f) g))

-- h is the formula of a letter
pub record Lone (k b n : ℕ) (x : Node) (h : Formula) : Type 0 where
  pub nodes : flat n h ≡ x ∷ []
  pub text : print h ≡ b ∷ []
  pub counted : temporals h ≡ cond (temporal x) 1 0
  pub letters : beyond k x ≡ false → Letters k h
  pub deep : levels h ≡ 1

-- h is the formula of a sign before f
pub record Before (k b n : ℕ) (x : Node) (f h : Formula) : Type 0 where
  pub nodes : flat n h ≡ x ∷ flat (suc n) f
  pub text : print h ≡ b ∷ print f
  pub counted : temporals h ≡ temporals f + cond (temporal x) 1 0
  pub letters : Letters k f → Letters k h
  pub deep : levels h ≡ suc (levels f)

-- h is the formula of a sign before f and g
pub record BeforeBoth (k b n : ℕ) (x : Node) (f g h : Formula) : Type 0 where
  pub nodes : flat n h ≡ with_second x (suc n + size f) ∷ (flat (suc n) f ++ flat (suc n + size f) g)
  pub text : print h ≡ b ∷ (print f ++ print g)
  pub counted : temporals h ≡ temporals f + temporals g + cond (temporal x) 1 0
  pub letters : Letters k f → Letters k g → Letters k h
  pub deep : levels h ≡ suc (max (levels f) (levels g))

-- which of the three it is
number : Operands → ℕ
number operands.Zero = 0
number operands.One = 1
number operands.Two = 2

other : {P : Type 0} (x y : Operands) (m n : ℕ) → number x ≡ m → number y ≡ n → (m ≡ n → ⊥) → x ≡ y → P
other x y m n p q ne e = absurd (ne (sym p ∙ ap number e ∙ q))

module _ (k b n : ℕ) where
  pub lone : (x : Node) → operands_of x ≡ operands.Zero → Spelt b (suc n) x → (h : Formula) × Lone k b n x h
  unfolding number
  lone (node.Action a) o e = (letter a, record { nodes = refl; text = ap (λ c. c ∷ []) (sym e); counted = refl; letters = λ l. leb-false k a l; deep = refl })
  lone (node.Not i) o e = other _ _ 1 0 refl refl (λ q. omega arith) o
  lone (node.Next i) o e = other _ _ 1 0 refl refl (λ q. omega arith) o
  lone (node.WeakNext i) o e = other _ _ 1 0 refl refl (λ q. omega arith) o
  lone (node.Eventually i) o e = other _ _ 1 0 refl refl (λ q. omega arith) o
  lone (node.Always i) o e = other _ _ 1 0 refl refl (λ q. omega arith) o
  lone (node.And i j) o e = other _ _ 2 0 refl refl (λ q. omega arith) o
  lone (node.Or i j) o e = other _ _ 2 0 refl refl (λ q. omega arith) o
  lone (node.Implies i j) o e = other _ _ 2 0 refl refl (λ q. omega arith) o
  lone (node.Until i j) o e = other _ _ 2 0 refl refl (λ q. omega arith) o
  lone (node.Release i j) o e = other _ _ 2 0 refl refl (λ q. omega arith) o

  pub before : (x : Node) → operands_of x ≡ operands.One → Spelt b (suc n) x → (f : Formula) → (h : Formula) × Before k b n x f h
  unfolding number
  before (node.Action a) o e f = other _ _ 0 1 refl refl (λ q. omega arith) o
  before (node.Not i) o e f = (neg f, record { nodes = ap (λ j. node.Not j ∷ flat (suc n) f) (sym e.1); text = ap (λ c. c ∷ print f) (sym e.0); counted = omega arith; letters = λ l. l; deep = refl })
  before (node.Next i) o e f = (next f, record { nodes = ap (λ j. node.Next j ∷ flat (suc n) f) (sym e.1); text = ap (λ c. c ∷ print f) (sym e.0); counted = omega arith; letters = λ l. l; deep = refl })
  before (node.WeakNext i) o e f = (weak_next f, record { nodes = ap (λ j. node.WeakNext j ∷ flat (suc n) f) (sym e.1); text = ap (λ c. c ∷ print f) (sym e.0); counted = omega arith; letters = λ l. l; deep = refl })
  before (node.Eventually i) o e f = (eventually f, record { nodes = ap (λ j. node.Eventually j ∷ flat (suc n) f) (sym e.1); text = ap (λ c. c ∷ print f) (sym e.0); counted = omega arith; letters = λ l. l; deep = refl })
  before (node.Always i) o e f = (always f, record { nodes = ap (λ j. node.Always j ∷ flat (suc n) f) (sym e.1); text = ap (λ c. c ∷ print f) (sym e.0); counted = omega arith; letters = λ l. l; deep = refl })
  before (node.And i j) o e f = other _ _ 2 1 refl refl (λ q. omega arith) o
  before (node.Or i j) o e f = other _ _ 2 1 refl refl (λ q. omega arith) o
  before (node.Implies i j) o e f = other _ _ 2 1 refl refl (λ q. omega arith) o
  before (node.Until i j) o e f = other _ _ 2 1 refl refl (λ q. omega arith) o
  before (node.Release i j) o e f = other _ _ 2 1 refl refl (λ q. omega arith) o

  pub before_both : (x : Node) → operands_of x ≡ operands.Two → Spelt b (suc n) x → (f g : Formula) → (h : Formula) × BeforeBoth k b n x f g h
  unfolding number
  before_both (node.Action a) o e f g = other _ _ 0 2 refl refl (λ q. omega arith) o
  before_both (node.Not i) o e f g = other _ _ 1 2 refl refl (λ q. omega arith) o
  before_both (node.Next i) o e f g = other _ _ 1 2 refl refl (λ q. omega arith) o
  before_both (node.WeakNext i) o e f g = other _ _ 1 2 refl refl (λ q. omega arith) o
  before_both (node.Eventually i) o e f g = other _ _ 1 2 refl refl (λ q. omega arith) o
  before_both (node.Always i) o e f g = other _ _ 1 2 refl refl (λ q. omega arith) o
  before_both (node.And i j) o e f g = (conj f g, record { nodes = ap (λ j. node.And j (suc n + size f) ∷ (flat (suc n) f ++ flat (suc n + size f) g)) (sym e.1); text = ap (λ c. c ∷ (print f ++ print g)) (sym e.0); counted = omega arith; letters = λ l m. (l, m); deep = refl })
  before_both (node.Or i j) o e f g = (disj f g, record { nodes = ap (λ j. node.Or j (suc n + size f) ∷ (flat (suc n) f ++ flat (suc n + size f) g)) (sym e.1); text = ap (λ c. c ∷ (print f ++ print g)) (sym e.0); counted = omega arith; letters = λ l m. (l, m); deep = refl })
  before_both (node.Implies i j) o e f g = (implies f g, record { nodes = ap (λ j. node.Implies j (suc n + size f) ∷ (flat (suc n) f ++ flat (suc n + size f) g)) (sym e.1); text = ap (λ c. c ∷ (print f ++ print g)) (sym e.0); counted = omega arith; letters = λ l m. (l, m); deep = refl })
  before_both (node.Until i j) o e f g = (until f g, record { nodes = ap (λ j. node.Until j (suc n + size f) ∷ (flat (suc n) f ++ flat (suc n + size f) g)) (sym e.1); text = ap (λ c. c ∷ (print f ++ print g)) (sym e.0); counted = omega arith; letters = λ l m. (l, m); deep = refl })
  before_both (node.Release i j) o e f g = (release f g, record { nodes = ap (λ j. node.Release j (suc n + size f) ∷ (flat (suc n) f ++ flat (suc n + size f) g)) (sym e.1); text = ap (λ c. c ∷ (print f ++ print g)) (sym e.0); counted = omega arith; letters = λ l m. (l, m); deep = refl })
