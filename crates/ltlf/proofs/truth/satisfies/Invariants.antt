use Rattle.std.proofs.Common.{◌≡◌, ◌-◌, length, drop}
use Rattle.ltlf.specs.Rows.{truths}
use Rattle.ltlf.specs.Suffix.{empty}
use Rattle.ltlf.proofs.truth.satisfies.Given as goal

-- the row and the flag speak of the suffix whose actions are done
abbrev pub invariant-loop-action : goal.invariant-loop-action
invariant-loop-action l =
    let done = drop (length l.trace - length l.yielded) l.trace in
    record {
      long : length l.row ≡ 64;
      row : l.row ≡ truths l.nodes done;
      ended : l.ended ≡ empty done;
    }
