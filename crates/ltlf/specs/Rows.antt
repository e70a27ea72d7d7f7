-- Rows: one bit for each node of a task, worked out from the last node to the first.
use Rattle.std.specs.Prelude.{◌≡◌, ℕ, suc, ◌-◌, ◌<◌, Bool, true, false, not, ◌&&◌, ◌||◌, List, [], ◌∷◌, ◌++◌, map, length, take, replicate, ◌==◌, nat_lt, slice_index_or}
use Rattle.std.specs.Borrow.{Bor}
use Rattle.ltlf.specs.declared.node.Node.{Node}
use Rattle.ltlf.specs.declared.node.Node.TheVariants as node
use Rattle.ltlf.specs.Nodes.{formulas}
use Rattle.ltlf.specs.Truth.{satisfied}
use Rattle.ltlf.specs.Suffix.{kept}

-- the bit of the operand i of node n; an operand stands behind its sign, and elsewhere the bit is false
abbrev pub operand_bit : ℕ → List Bool → ℕ → Bool
operand_bit n row i = nat_lt n i && slice_index_or row i false

-- the truth of a node on the empty trace, from the truth of its operands
abbrev pub truth_at_end : (ℕ → Bool) → Node → Bool
truth_at_end here (node.Action a) = false
truth_at_end here (node.Not i) = not (here i)
truth_at_end here (node.Next i) = false
truth_at_end here (node.WeakNext i) = true
truth_at_end here (node.Eventually i) = false
truth_at_end here (node.Always i) = true
truth_at_end here (node.And i j) = here i && here j
truth_at_end here (node.Or i j) = here i || here j
truth_at_end here (node.Implies i j) = not (here i) || here j
truth_at_end here (node.Until i j) = false
truth_at_end here (node.Release i j) = true

-- what a node keeps of a suffix, from its own truth and that of its operands there, and whether the suffix is empty
abbrev pub pending_on : (ℕ → Bool) → Bool → Bool → Node → Bool
pending_on there own ended (node.Action a) = false
pending_on there own ended (node.Not i) = false
pending_on there own ended (node.Next i) = not ended && there i
pending_on there own ended (node.WeakNext i) = ended || there i
pending_on there own ended (node.Eventually i) = own
pending_on there own ended (node.Always i) = own
pending_on there own ended (node.And i j) = false
pending_on there own ended (node.Or i j) = false
pending_on there own ended (node.Implies i j) = false
pending_on there own ended (node.Until i j) = own
pending_on there own ended (node.Release i j) = own

-- the truth of a node with the action x in front of a suffix, from the truth of its operands there and what it kept of the suffix
abbrev pub truth_before : (ℕ → Bool) → ℕ → Bool → Node → Bool
truth_before here x pending (node.Action a) = x == a
truth_before here x pending (node.Not i) = not (here i)
truth_before here x pending (node.Next i) = pending
truth_before here x pending (node.WeakNext i) = pending
truth_before here x pending (node.Eventually i) = here i || pending
truth_before here x pending (node.Always i) = here i && pending
truth_before here x pending (node.And i j) = here i && here j
truth_before here x pending (node.Or i j) = here i || here j
truth_before here x pending (node.Implies i j) = not (here i) || here j
truth_before here x pending (node.Until i j) = here j || (here i && pending)
truth_before here x pending (node.Release i j) = here j && (here i || pending)

-- the bit with number i among bits that stand behind node n
abbrev pub bit_behind : ℕ → List Bool → ℕ → Bool
bit_behind n bits i = nat_lt n i && slice_index_or bits (i - suc n) false

-- the bit of a node, from its number, the bits behind it and the node
abbrev pub Rule : Type 0
Rule = ℕ → (ℕ → Bool) → Node → Bool

-- the bits of nodes by a rule, the first of which has number n
abbrev pub bits_from : Rule → ℕ → List Node → List Bool
bits_from rule n [] = []
bits_from rule n (x ∷ xs) = rule n (bit_behind n (bits_from rule (suc n) xs)) x ∷ bits_from rule (suc n) xs

-- a row has 64 bits, the bits of nodes first
abbrev pub padded : List Bool → List Bool
padded bits = bits ++ replicate (64 - length bits) false

-- the row of nodes by a rule; nodes past the 64th have no place in it
unfoldable pub row_by : Rule → List Node → List Bool
row_by rule xs = padded (bits_from rule 0 (take 64 xs))

-- a closure may be called at each node that has a place in a row
abbrev pub TakesNodes : (ℕ → Node → Bor (List Bool) → Type 0) → Type 0
TakesNodes pre = (n : ℕ) (x : Node) (row : Bor (List Bool)) → n < 64 → pre n x row

-- and what it returns there is the rule's bit, by the bits of the row
abbrev pub Computes : (ℕ → Node → Bor (List Bool) → Bool → Type 0) → Rule → Type 0
Computes post rule = (n : ℕ) (x : Node) (row : Bor (List Bool)) (b : Bool) → n < 64 → post n x row b → b ≡ rule n (operand_bit n row.now) x

-- the rules of the three passes
abbrev pub end_rule : Rule
end_rule n here x = truth_at_end here x

abbrev pub pending_rule : List Bool → Bool → Rule
pending_rule row ended n behind x = pending_on (operand_bit n row) (slice_index_or row n false) ended x

abbrev pub before_rule : ℕ → List Bool → Rule
before_rule action pending n here x = truth_before here action (slice_index_or pending n false) x

-- the row that has the truth of each node's formula on the suffix w, and the row of what each keeps of w
unfoldable pub truths : List Node → List ℕ → List Bool
truths xs w = padded (map (λ f. satisfied f w) (formulas 0 (take 64 xs)))

unfoldable pub keeps : List Node → List ℕ → List Bool
keeps xs w = padded (map (kept w) (formulas 0 (take 64 xs)))
