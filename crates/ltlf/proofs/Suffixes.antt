-- The rows of the passes are rows of truths.
use Rattle.std.proofs.Common.{◌≡◌, ℕ, zero, suc, ◌-◌, ◌≤◌, Bool, true, false, cond, not, ◌&&◌, ◌||◌, ltb, List, [], ◌∷◌, map, length, get_or, take, sym, refl, ap, ◌∙◌, ap₂, arith}
use Rattle.std.proofs.lemmas.Bool.{ltb-true}
use Rattle.ltlf.specs.declared.node.Node.{Node}
use Rattle.ltlf.specs.declared.node.Node.TheVariants as node
use Rattle.ltlf.specs.Formula.{Formula, letter}
use Rattle.ltlf.specs.Nodes.{formulas, of_node, behind, falsum, formula_of}
use Rattle.ltlf.specs.Truth.{satisfied}
use Rattle.ltlf.specs.Suffix.{empty, kept}
use Rattle.ltlf.specs.Rows.{operand_bit, bit_behind, bits_from, padded, row_by, truth_at_end, pending_on, truth_before, end_rule, pending_rule, before_rule, truths, keeps}
use Rattle.ltlf.proofs.Step.{by_suffix}
use Rattle.ltlf.proofs.Passes.{get_or_padded}

and_not : (b : Bool) → (b && not b) ≡ false
and_not true = refl
and_not false = refl

-- no trace satisfies what stands for a missing operand
never : (w : List ℕ) → satisfied falsum w ≡ false
never w = and_not (satisfied (letter 0) w)

module _ (w : List ℕ) where
  abbrev true_on : Formula → Bool
  true_on f = satisfied f w

  get_or_truths : (fs : List Formula) (k : ℕ) → get_or (map true_on fs) k false ≡ satisfied (get_or fs k falsum) w
  get_or_truths [] k = sym (never w)
  get_or_truths (f ∷ fs) zero = refl
  get_or_truths (f ∷ fs) (suc k) = get_or_truths fs k

  truth_behind : (n : ℕ) (fs : List Formula) (i : ℕ) → bit_behind n (map true_on fs) i ≡ satisfied (behind n fs i) w
  truth_behind n fs i = go (ltb n i)
    where
      go : (k : Bool) → (k && get_or (map true_on fs) (i - suc n) false) ≡ satisfied (cond k (get_or fs (i - suc n) falsum) falsum) w
      go true = get_or_truths fs (i - suc n)
      go false = sym (never w)

-- one node on the empty trace
end_node : (at : ℕ → Formula) (here : ℕ → Bool) → ((i : ℕ) → here i ≡ satisfied (at i) []) → (x : Node) → truth_at_end here x ≡ satisfied (of_node at x) []
end_node at here h (node.Action a) = sym (by_suffix.end_letter a)
end_node at here h (node.Not i) = ap not (h i)
end_node at here h (node.Next i) = sym (by_suffix.end_next (at i))
end_node at here h (node.WeakNext i) = sym (by_suffix.end_weak_next (at i))
end_node at here h (node.Eventually i) = sym (by_suffix.end_eventually (at i))
end_node at here h (node.Always i) = sym (by_suffix.end_always (at i))
end_node at here h (node.And i j) = ap₂ ◌&&◌ (h i) (h j)
end_node at here h (node.Or i j) = ap₂ ◌||◌ (h i) (h j)
end_node at here h (node.Implies i j) = ap₂ (λ a b. not a || b) (h i) (h j)
end_node at here h (node.Until i j) = sym (by_suffix.end_until (at i) (at j))
end_node at here h (node.Release i j) = sym (by_suffix.end_release (at i) (at j))

-- what one node keeps of a suffix
keep_node : (w : List ℕ) (at : ℕ → Formula) (there : ℕ → Bool) (own : Bool) → ((i : ℕ) → there i ≡ satisfied (at i) w) → (x : Node) → own ≡ satisfied (of_node at x) w → pending_on there own (empty w) x ≡ kept w (of_node at x)
keep_node w at there own h (node.Action a) e = refl
keep_node w at there own h (node.Not i) e = refl
keep_node w at there own h (node.Next i) e = ap (λ b. not (empty w) && b) (h i)
keep_node w at there own h (node.WeakNext i) e = ap (λ b. empty w || b) (h i)
keep_node w at there own h (node.Eventually i) e = e
keep_node w at there own h (node.Always i) e = e
keep_node w at there own h (node.And i j) e = refl
keep_node w at there own h (node.Or i j) e = refl
keep_node w at there own h (node.Implies i j) e = refl
keep_node w at there own h (node.Until i j) e = e
keep_node w at there own h (node.Release i j) e = e

-- one node with the action a in front
step_node : (a : ℕ) (w : List ℕ) (at : ℕ → Formula) (here : ℕ → Bool) (pending : Bool) → ((i : ℕ) → here i ≡ satisfied (at i) (a ∷ w)) → (x : Node) → pending ≡ kept w (of_node at x) → truth_before here a pending x ≡ satisfied (of_node at x) (a ∷ w)
step_node a w at here p h (node.Action b) e = sym (by_suffix.at_letter b a w)
step_node a w at here p h (node.Not i) e = ap not (h i)
step_node a w at here p h (node.Next i) e = e ∙ sym (by_suffix.at_next (at i) a w)
step_node a w at here p h (node.WeakNext i) e = e ∙ sym (by_suffix.at_weak_next (at i) a w)
step_node a w at here p h (node.Eventually i) e = ap₂ ◌||◌ (h i) e ∙ sym (by_suffix.at_eventually (at i) a w)
step_node a w at here p h (node.Always i) e = ap₂ ◌&&◌ (h i) e ∙ sym (by_suffix.at_always (at i) a w)
step_node a w at here p h (node.And i j) e = ap₂ ◌&&◌ (h i) (h j)
step_node a w at here p h (node.Or i j) e = ap₂ ◌||◌ (h i) (h j)
step_node a w at here p h (node.Implies i j) e = ap₂ (λ a b. not a || b) (h i) (h j)
step_node a w at here p h (node.Until i j) e = ap₂ ◌||◌ (h j) (ap₂ ◌&&◌ (h i) e) ∙ sym (by_suffix.at_until (at i) (at j) a w)
step_node a w at here p h (node.Release i j) e = ap₂ ◌&&◌ (h j) (ap₂ ◌||◌ (h i) e) ∙ sym (by_suffix.at_release (at i) (at j) a w)

-- the entries of `row` from n on are the bits
abbrev From : List Bool → ℕ → List Bool → Type 0
From row n bits = (k : ℕ) → n ≤ k → get_or row k false ≡ get_or bits (k - n) false

from_next : (row : List Bool) (n : ℕ) (b : Bool) (bits : List Bool) → From row n (b ∷ bits) → From row (suc n) bits
from_next row n b bits h k l =
    let on : k - n ≡ suc (k - suc n) = omega arith in
    h k (omega arith) ∙ ap (λ j. get_or (b ∷ bits) j false) on

from_here : (row : List Bool) (n : ℕ) (b : Bool) (bits : List Bool) → From row n (b ∷ bits) → get_or row n false ≡ b
from_here row n b bits h =
    let none : n - n ≡ 0 = omega arith in
    h n (omega arith) ∙ ap (λ j. get_or (b ∷ bits) j false) none

from_padded : (bits : List Bool) → From (padded bits) 0 bits
from_padded bits k l =
    let same : k ≡ k - 0 = omega arith in
    get_or_padded bits (64 - length bits) k ∙ ap (λ j. get_or bits j false) same

operand_from : (row : List Bool) (n i : ℕ) (bits : List Bool) → From row (suc n) bits → operand_bit n row i ≡ bit_behind n bits i
operand_from row n i bits h = go (ltb n i) refl
  where
    go : (k : Bool) → ltb n i ≡ k → (k && get_or row i false) ≡ (k && get_or bits (i - suc n) false)
    go true e = h i (omega (arith, ltb-true n i e))
    go false e = refl

end_bits : (n : ℕ) (xs : List Node) → bits_from end_rule n xs ≡ map (true_on []) (formulas n xs)
end_bits n [] = refl
end_bits n (x ∷ xs) =
    let rest = end_bits (suc n) xs in
    let fs = formulas (suc n) xs in
    ap₂ ◌∷◌ (end_node (behind n fs) _ (λ i. ap (λ bits. bit_behind n bits i) rest ∙ truth_behind [] n fs i) x) rest

kept_bits : (w : List ℕ) (row : List Bool) (n : ℕ) (xs : List Node) → From row n (map (true_on w) (formulas n xs)) → bits_from (pending_rule row (empty w)) n xs ≡ map (kept w) (formulas n xs)
kept_bits w row n [] h = refl
kept_bits w row n (x ∷ xs) h =
    let fs = formulas (suc n) xs in
    let own : Bool = satisfied (of_node (behind n fs) x) w in
    let next = from_next row n own (map (true_on w) fs) h in
    ap₂ ◌∷◌
    (keep_node w (behind n fs) _ _ (λ i. operand_from row n i (map (true_on w) fs) next ∙ truth_behind w n fs i) x (from_here row n own (map (true_on w) fs) h))
    (kept_bits w row (suc n) xs next)

step_bits : (a : ℕ) (w : List ℕ) (pending : List Bool) (n : ℕ) (xs : List Node) → From pending n (map (kept w) (formulas n xs)) → bits_from (before_rule a pending) n xs ≡ map (true_on (a ∷ w)) (formulas n xs)
step_bits a w pending n [] h = refl
step_bits a w pending n (x ∷ xs) h =
    let fs = formulas (suc n) xs in
    let own : Bool = kept w (of_node (behind n fs) x) in
    let rest = step_bits a w pending (suc n) xs (from_next pending n own (map (kept w) fs) h) in
    ap₂ ◌∷◌
    (step_node a w (behind n fs) _ _ (λ i. ap (λ bits. bit_behind n bits i) rest ∙ truth_behind (a ∷ w) n fs i) x (from_here pending n own (map (kept w) fs) h))
    rest

pub row_at_end : (xs : List Node) → row_by end_rule xs ≡ truths xs []
unfolding row_by truths
row_at_end xs = ap padded (end_bits 0 (take 64 xs))

pub row_kept : (xs : List Node) (w : List ℕ) → row_by (pending_rule (truths xs w) (empty w)) xs ≡ keeps xs w
unfolding row_by truths keeps
row_kept xs w = ap padded (kept_bits w _ 0 (take 64 xs) (from_padded (map (true_on w) (formulas 0 (take 64 xs)))))

pub row_step : (xs : List Node) (a : ℕ) (w : List ℕ) → row_by (before_rule a (keeps xs w)) xs ≡ truths xs (a ∷ w)
unfolding row_by truths keeps
row_step xs a w = ap padded (step_bits a w _ 0 (take 64 xs) (from_padded (map (kept w) (formulas 0 (take 64 xs)))))

-- the first bit is the truth of the whole formula
pub row_first : (xs : List Node) (w : List ℕ) → get_or (truths xs w) 0 false ≡ satisfied (formula_of (take 64 xs)) w
unfolding truths
row_first xs w = get_or_padded (map (true_on w) (formulas 0 (take 64 xs))) _ 0 ∙ get_or_truths w (formulas 0 (take 64 xs)) 0
