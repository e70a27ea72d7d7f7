-- A formula as a list of nodes, each before the nodes of its operands.
use Rattle.std.specs.Prelude.{ℕ, suc, ◌+◌, ◌-◌, Bool, true, false, cond, List, [], ◌∷◌, ◌++◌, nat_lt, slice_index_or}
use Rattle.ltlf.specs.declared.node.Node.{Node}
use Rattle.ltlf.specs.declared.node.Node.TheVariants as node
use Rattle.ltlf.specs.Formula.{Formula, letter, neg, next, weak_next, eventually, always, conj, disj, implies, until, release, size}

-- the nodes of a formula, the first of them with number n
abbrev pub flat : ℕ → Formula → List Node
flat n (letter a) = node.Action a ∷ []
flat n (neg f) = node.Not (suc n) ∷ flat (suc n) f
flat n (next f) = node.Next (suc n) ∷ flat (suc n) f
flat n (weak_next f) = node.WeakNext (suc n) ∷ flat (suc n) f
flat n (eventually f) = node.Eventually (suc n) ∷ flat (suc n) f
flat n (always f) = node.Always (suc n) ∷ flat (suc n) f
flat n (conj f g) = node.And (suc n) (suc n + size f) ∷ (flat (suc n) f ++ flat (suc n + size f) g)
flat n (disj f g) = node.Or (suc n) (suc n + size f) ∷ (flat (suc n) f ++ flat (suc n + size f) g)
flat n (implies f g) = node.Implies (suc n) (suc n + size f) ∷ (flat (suc n) f ++ flat (suc n + size f) g)
flat n (until f g) = node.Until (suc n) (suc n + size f) ∷ (flat (suc n) f ++ flat (suc n + size f) g)
flat n (release f g) = node.Release (suc n) (suc n + size f) ∷ (flat (suc n) f ++ flat (suc n + size f) g)

-- what stands for an operand that is not there: no trace satisfies it
abbrev pub falsum : Formula
falsum = conj (letter 0) (neg (letter 0))

-- the formula of a node, with the formulas of its operands by their numbers
abbrev pub of_node : (ℕ → Formula) → Node → Formula
of_node at (node.Action a) = letter a
of_node at (node.Not i) = neg (at i)
of_node at (node.Next i) = next (at i)
of_node at (node.WeakNext i) = weak_next (at i)
of_node at (node.Eventually i) = eventually (at i)
of_node at (node.Always i) = always (at i)
of_node at (node.And i j) = conj (at i) (at j)
of_node at (node.Or i j) = disj (at i) (at j)
of_node at (node.Implies i j) = implies (at i) (at j)
of_node at (node.Until i j) = until (at i) (at j)
of_node at (node.Release i j) = release (at i) (at j)

-- the formula with number i among the formulas fs, which stand behind node n; an operand stands behind its sign
abbrev pub behind : ℕ → List Formula → ℕ → Formula
behind n fs i = cond (nat_lt n i) (slice_index_or fs (i - suc n) falsum) falsum

-- the formulas of nodes, the first of which has number n
abbrev pub formulas : ℕ → List Node → List Formula
formulas n [] = []
formulas n (x ∷ xs) = of_node (behind n (formulas (suc n) xs)) x ∷ formulas (suc n) xs

-- the formula that nodes mean: that of the first
abbrev pub formula_of : List Node → Formula
formula_of xs = slice_index_or (formulas 0 xs) 0 falsum

-- X N F G U R
abbrev pub temporal : Node → Bool
temporal (node.Action a) = false
temporal (node.Not i) = false
temporal (node.Next i) = true
temporal (node.WeakNext i) = true
temporal (node.Eventually i) = true
temporal (node.Always i) = true
temporal (node.And i j) = false
temporal (node.Or i j) = false
temporal (node.Implies i j) = false
temporal (node.Until i j) = true
temporal (node.Release i j) = true

-- how many of the nodes are temporal signs
abbrev pub temporal_nodes : List Node → ℕ
temporal_nodes [] = 0
temporal_nodes (x ∷ xs) = cond (temporal x) 1 0 + temporal_nodes xs
