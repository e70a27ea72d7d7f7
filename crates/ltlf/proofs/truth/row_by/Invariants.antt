use Rattle.std.proofs.Common.{◌≡◌, ◌≤◌, length, take}
use Rattle.ltlf.specs.Rows.{Rule, Computes}
use Rattle.ltlf.proofs.Passes.{Working}
use Rattle.ltlf.proofs.truth.row_by.Given as goal

-- the nodes still to do are the first ones
abbrev pub invariant-loop-n : goal.invariant-loop-n
invariant-loop-n g l =
    let left = l.n-iterator.iter.iter.rest.now in
    record {
      from_zero : l.n-iterator.iter.count ≡ 0;
      first : left ≡ take (length left) l.nodes;
      few : length left ≤ 64;
      working : (r : Rule) → Computes (goal.F-post g l.fn.rule) r → Working r l.nodes l.row (length left);
    }
