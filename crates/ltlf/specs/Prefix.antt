-- Reading a task's text byte by byte: the first byte that cannot stand there, or the end of the text.
use Rattle.std.specs.Prelude.{◌≡◌, ℕ, suc, ◌+◌, ◌-◌, Bool, true, false, cond, ◌&&◌, ◌||◌, ◌⊎◌, List, [], ◌∷◌, Some, None, Ok, Err, Option, Result, ◌==◌, nat_le, nat_lt}
use Rattle.wire.specs.declared.refusal.Cause.{Cause}
use Rattle.wire.specs.declared.refusal.Cause.TheVariants as cause
use Rattle.wire.specs.declared.refusal.Refusal.{Refusal}
use Rattle.wire.specs.Refusals.{refused, no_memory}
use Rattle.ltlf.specs.declared.node.Node.{Node}
use Rattle.ltlf.specs.declared.node.Node.TheVariants as node
use Rattle.ltlf.specs.declared.reader.Operands.{Operands}
use Rattle.ltlf.specs.declared.reader.Operands.TheVariants as operands
use Rattle.ltlf.specs.Formula.{Formula, print, Fits}
use Rattle.ltlf.specs.Nodes.{flat, formula_of, temporal}

-- The node of a sign or letter, with the number of its first operand; the second's is set once it is known.
-- ! X N F G take one operand, & | > U R two, a to z none.
abbrev pub sign_node : ℕ → ℕ → Option Node
sign_node b i =
    cond (b == 33) (Some (node.Not i))
    (cond (b == 88) (Some (node.Next i))
    (cond (b == 78) (Some (node.WeakNext i))
    (cond (b == 70) (Some (node.Eventually i))
    (cond (b == 71) (Some (node.Always i))
    (cond (b == 38) (Some (node.And i 0))
    (cond (b == 124) (Some (node.Or i 0))
    (cond (b == 62) (Some (node.Implies i 0))
    (cond (b == 85) (Some (node.Until i 0))
    (cond (b == 82) (Some (node.Release i 0))
    (cond (nat_le 97 b && nat_le b 122) (Some (node.Action (b - 97))) None))))))))))

unfoldable pub node_of : ℕ → ℕ → Option Node
node_of b i = sign_node b i

-- blanks and line ends are passed over
abbrev pub blank : ℕ → Bool
blank b = b == 32 || b == 10

-- the text without them
abbrev pub strip : List ℕ → List ℕ
strip [] = []
strip (b ∷ bs) = cond (blank b) (strip bs) (b ∷ strip bs)

-- how many operands a sign takes
abbrev pub operands_of : Node → Operands
operands_of (node.Action a) = operands.Zero
operands_of (node.Not i) = operands.One
operands_of (node.Next i) = operands.One
operands_of (node.WeakNext i) = operands.One
operands_of (node.Eventually i) = operands.One
operands_of (node.Always i) = operands.One
operands_of (node.And i j) = operands.Two
operands_of (node.Or i j) = operands.Two
operands_of (node.Implies i j) = operands.Two
operands_of (node.Until i j) = operands.Two
operands_of (node.Release i j) = operands.Two

-- a letter that is none of k actions
abbrev pub beyond : ℕ → Node → Bool
beyond k (node.Action a) = nat_le k a
beyond k (node.Not i) = false
beyond k (node.Next i) = false
beyond k (node.WeakNext i) = false
beyond k (node.Eventually i) = false
beyond k (node.Always i) = false
beyond k (node.And i j) = false
beyond k (node.Or i j) = false
beyond k (node.Implies i j) = false
beyond k (node.Until i j) = false
beyond k (node.Release i j) = false

-- What has been seen of a text: its signs and letters, the temporal signs among them,
-- and the level of each formula that is still to come, the next one first.
pub record Seen : Type 0 where
  pub signs : ℕ
  pub temporals : ℕ
  pub owed : List ℕ

-- at the start one formula is to come, at level 1
abbrev pub start : Seen
start = record { signs = 0; temporals = 0; owed = 1 ∷ [] }

-- the first limit that a sign or letter breaks at level d, behind n others of which t are temporal
abbrev pub limit : ℕ → ℕ → ℕ → ℕ → Node → Option Cause
limit k n t d x =
    cond (beyond k x) (Some cause.LetterOutOfRange)
    (cond (nat_le 64 n) (Some cause.TooManySigns)
    (cond (nat_lt 16 d) (Some cause.TooDeep)
    (cond (temporal x && nat_le 7 t) (Some cause.TooManyTemporal) None)))

abbrev pub limit_at : ℕ → Seen → List ℕ → Node → Option Cause
limit_at k s [] x = Some cause.FormulaComplete
limit_at k s (d ∷ ds) x = limit k s.signs s.temporals d x

abbrev pub fault_of : ℕ → Seen → Option Node → Option Cause
fault_of k s None = Some cause.UnknownByte
fault_of k s (Some x) = limit_at k s s.owed x

-- what is to come once the operands of a sign at level d are
abbrev pub owing : Operands → ℕ → List ℕ → List ℕ
owing operands.Zero d ds = ds
owing operands.One d ds = suc d ∷ ds
owing operands.Two d ds = suc d ∷ (suc d ∷ ds)

abbrev pub owed_after : List ℕ → Node → List ℕ
owed_after [] x = []
owed_after (d ∷ ds) x = owing (operands_of x) d ds

abbrev pub after : Seen → Option Node → Seen
after s None = s
after s (Some x) = record { signs = suc s.signs; temporals = s.temporals + cond (temporal x) 1 0; owed = owed_after s.owed x }

-- at the end of the text nothing may be to come
abbrev pub ended : List ℕ → ℕ → Result (Unit {0}) Refusal
ended [] i = Ok tt
ended (d ∷ ds) i = Err (refused cause.Incomplete i)

-- a fault at place i, or what the rest of the text says
abbrev pub unless : Option Cause → ℕ → Result (Unit {0}) Refusal → Result (Unit {0}) Refusal
unless None i r = r
unless (Some e) i r = Err (refused e i)

-- the verdict on the bytes from place i on
abbrev pub judge : ℕ → Seen → ℕ → List ℕ → Result (Unit {0}) Refusal
judge k s i [] = ended s.owed i
judge k s i (b ∷ bs) =
    cond (blank b) (judge k s (suc i) bs) (unless (fault_of k s (node_of b (suc s.signs))) i (judge k (after s (node_of b (suc s.signs))) (suc i) bs))

-- a task may have k actions
abbrev pub in_range : ℕ → Bool
in_range k = nat_le 1 k && nat_le k 16

-- the verdict on a text for k actions
abbrev pub verdict : ℕ → List ℕ → Result (Unit {0}) Refusal
verdict k bs = cond (in_range k) (judge k start 0 bs) (Err (refused cause.ActionsOutOfRange 0))

-- What reading a text for k actions answers, and the actions and nodes that it leaves.
-- Accepted: the text without blanks is the prefix text of a formula within the limits, which the nodes mean.
-- Refused: the first fault, or want of memory; the task is the zero task.
abbrev pub Read : ℕ → List ℕ → Result (Unit {0}) Refusal → ℕ → List Node → Type 0
Read k bs (Ok u) actions nodes =
    (verdict k bs ≡ Ok u) × (actions ≡ k)
    × ((f : Formula) × (strip bs ≡ print f) × Fits k f × (nodes ≡ flat 0 f) × (formula_of nodes ≡ f))
Read k bs (Err e) actions nodes = ((verdict k bs ≡ Err e) ⊎ ((e ≡ no_memory) × (in_range k ≡ true))) × (actions ≡ 0) × (nodes ≡ [])

-- a verdict without its place
abbrev pub cause_of : Result (Unit {0}) Refusal → Option Cause
cause_of (Ok u) = None
cause_of (Err e) = Some e.cause

-- Every prefix text of a formula within the limits is accepted, a text has one such formula at most,
-- and blanks between signs do not matter.
pub record TextLaw (k : ℕ) (bs : List ℕ) : Type 0 where
  pub accepts : (f : Formula) → Fits k f → strip bs ≡ print f → verdict k bs ≡ Ok tt
  pub one_formula : (f g : Formula) → Fits k f → Fits k g → strip bs ≡ print f → strip bs ≡ print g → f ≡ g
  -- blanks and line ends change nothing but places
  pub blanks : (cs : List ℕ) → strip cs ≡ strip bs → cause_of (verdict k cs) ≡ cause_of (verdict k bs)
