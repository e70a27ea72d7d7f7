-- What may stand behind a formula.
use Rattle.std.proofs.Common.{◌≡◌, ℕ, suc, ◌<◌, List, [], length, get_or, drop, Some, None, Err, ap, ◌∙◌}
use Rattle.wire.specs.declared.refusal.Cause.TheVariants as cause
use Rattle.wire.specs.Refusals.{refused}
use Rattle.ltlf.specs.declared.node.Node.{Node}
use Rattle.ltlf.specs.declared.reader.Progress.{Progress}
use Rattle.ltlf.specs.Prefix.{node_of, fault_of, judge, start}
use Rattle.ltlf.specs.Steps.{Skipped, seen}
use Rattle.ltlf.proofs.Judging.{sign_refused}

module _ (k : ℕ) (bs : List ℕ) (q : Progress) (n i : ℕ) (sk : Skipped bs q.at i) (v : judge k start 0 bs ≡ judge k (seen q n []) q.at (drop q.at bs)) where
  here : judge k start 0 bs ≡ judge k (seen q n []) i (drop i bs)
  here = v ∙ sk.same_verdict k (seen q n [])

  pub behind_unknown : i < length bs → node_of (get_or bs i 0) (suc n) ≡ None → judge k start 0 bs ≡ Err (refused cause.UnknownByte i)
  behind_unknown lt e = here ∙ sign_refused bs i lt (sk.stops lt) k (seen q n []) cause.UnknownByte (ap (fault_of k (seen q n [])) e)

  pub behind_more : i < length bs → (x : Node) → node_of (get_or bs i 0) (suc n) ≡ Some x → judge k start 0 bs ≡ Err (refused cause.FormulaComplete i)
  behind_more lt x e = here ∙ sign_refused bs i lt (sk.stops lt) k (seen q n []) cause.FormulaComplete (ap (fault_of k (seen q n [])) e)

-- the place and the counts at the start of a text
abbrev pub origin : Progress
origin = record { at = 0; temporals = 0 }
