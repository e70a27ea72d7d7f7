use Rattle.std.proofs.Common.{◌≡◌, drop}
use Rattle.std.specs.List.{list_all}
use Rattle.board.specs.Rounds.{held}
use Rattle.board.proofs.ranks.Ranks.all_below.Given as goal

abbrev pub invariant-loop-position : goal.invariant-loop-position
invariant-loop-position l = list_all (held l.fn.self.of l.limit) l.positions ≡ list_all (held l.fn.self.of l.limit) (drop l.position-index l.positions)
