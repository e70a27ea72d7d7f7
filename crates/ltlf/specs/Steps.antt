-- What the parts of the task reader promise one another.
use Rattle.std.specs.Prelude.{◌≡◌, ℕ, suc, ◌+◌, ◌-◌, ◌<◌, ◌≤◌, false, cond, ◌⊎◌, List, ◌∷◌, ◌++◌, length, drop, Some, Ok, Err, Result, slice_index}
use Rattle.wire.specs.declared.refusal.Refusal.{Refusal}
use Rattle.wire.specs.Refusals.{no_memory}
use Rattle.ltlf.specs.declared.node.Node.{Node}
use Rattle.ltlf.specs.declared.node.Node.TheVariants as node
use Rattle.ltlf.specs.declared.reader.Progress.{Progress}
use Rattle.ltlf.specs.Formula.{Formula, print, temporals, levels, Letters}
use Rattle.ltlf.specs.Nodes.{flat, temporal}
use Rattle.ltlf.specs.Prefix.{Seen, node_of, blank, strip, beyond, operands_of, owing, judge, start}

-- the same node with the number of its second operand
abbrev pub with_second : Node → ℕ → Node
with_second (node.Action a) j = node.Action a
with_second (node.Not i) j = node.Not i
with_second (node.Next i) j = node.Next i
with_second (node.WeakNext i) j = node.WeakNext i
with_second (node.Eventually i) j = node.Eventually i
with_second (node.Always i) j = node.Always i
with_second (node.And i m) j = node.And i j
with_second (node.Or i m) j = node.Or i j
with_second (node.Implies i m) j = node.Implies i j
with_second (node.Until i m) j = node.Until i j
with_second (node.Release i m) j = node.Release i j

-- only blanks stand from place i to place r
pub record Skipped (bs : List ℕ) (i r : ℕ) : Type 0 where
  pub within : r ≤ length bs
  pub same_text : strip (drop i bs) ≡ strip (drop r bs)
  pub same_verdict : (k : ℕ) (s : Seen) → judge k s i (drop i bs) ≡ judge k s r (drop r bs)
  pub stops : r < length bs → blank (slice_index bs r) ≡ false

-- what has been seen after n signs, with the formulas that are still to come
abbrev pub seen : Progress → ℕ → List ℕ → Seen
seen p n ds = record { signs = n; temporals = p.temporals; owed = ds }

-- the verdict from where the reader stands; a formula with l levels left to it comes next
abbrev pub next_verdict : ℕ → List ℕ → ℕ → ℕ → Progress → List ℕ → Result (Unit {0}) Refusal
next_verdict k bs l n p ds = judge k (seen p n ((17 - l) ∷ ds)) p.at (drop p.at bs)

-- a sign x was taken as number n
pub record Taken (k : ℕ) (bs : List ℕ) (l n : ℕ) (p q : Progress) (x : Node) : Type 0 where
  pub some_level : 0 < l
  pub room : n < 64
  pub within : q.at ≤ length bs
  pub few_temporals : q.temporals ≤ 7
  pub counted : q.temporals ≡ p.temporals + cond (temporal x) 1 0
  pub letter : beyond k x ≡ false
  pub byte : ℕ
  pub is : node_of byte (suc n) ≡ Some x
  pub text : strip (drop p.at bs) ≡ byte ∷ strip (drop q.at bs)
  pub verdict : (ds : List ℕ) → next_verdict k bs l n p ds ≡ judge k (seen q (suc n) (owing (operands_of x) (17 - l) ds)) q.at (drop q.at bs)

abbrev pub Takes : ℕ → List ℕ → ℕ → ℕ → Progress → Progress → Result Node Refusal → Type 0
Takes k bs l n p q (Ok x) = Taken k bs l n p q x
Takes k bs l n p q (Err e) = (ds : List ℕ) → next_verdict k bs l n p ds ≡ Err e

-- a formula f with at most l levels was read behind the nodes xs
pub record Grown (k : ℕ) (bs : List ℕ) (l : ℕ) (p q : Progress) (xs ys : List Node) (f : Formula) : Type 0 where
  pub within : q.at ≤ length bs
  pub few_temporals : q.temporals ≤ 7
  pub counted : q.temporals ≡ p.temporals + temporals f
  pub nodes : ys ≡ xs ++ flat (length xs) f
  pub letters : Letters k f
  pub few_levels : levels f ≤ l
  pub text : strip (drop p.at bs) ≡ print f ++ strip (drop q.at bs)
  pub verdict : (ds : List ℕ) → next_verdict k bs l (length xs) p ds ≡ judge k (seen q (length ys) ds) q.at (drop q.at bs)

abbrev pub Grows : ℕ → List ℕ → ℕ → Progress → Progress → List Node → List Node → Result (Unit {0}) Refusal → Type 0
Grows k bs l p q xs ys (Ok u) = (f : Formula) × Grown k bs l p q xs ys f
Grows k bs l p q xs ys (Err e) = ((ds : List ℕ) → next_verdict k bs l (length xs) p ds ≡ Err e) ⊎ (e ≡ no_memory)

-- a whole text was read into an empty list of nodes
abbrev pub Whole : ℕ → List ℕ → List Node → Result (Unit {0}) Refusal → Type 0
Whole k bs ys (Ok u) = (judge k start 0 bs ≡ Ok u) × ((f : Formula) × (strip bs ≡ print f) × (ys ≡ flat 0 f) × (length ys ≤ 64) × Letters k f × (levels f ≤ 16) × (temporals f ≤ 7))
Whole k bs ys (Err e) = (judge k start 0 bs ≡ Err e) ⊎ (e ≡ no_memory)
