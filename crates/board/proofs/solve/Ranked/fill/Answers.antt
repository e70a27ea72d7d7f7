use Rattle.std.proofs.Common.{arith, rules, tests}
use Rattle.std.proofs.lemmas.Iterator.{YieldsList-from_range}
use Rattle.std.proofs.lemmas.Iterator.Adapters.{items_from_extend}
use Rattle.std.proofs.lemmas.Iterator.Consumers.{YieldsList-from_filter_map}
use Rattle.board.specs.Table.{row_if}
use Rattle.board.proofs.Rows.{rows_listed}
use Rattle.board.proofs.solve.Ranked.fill.Goals as goal

pub returns : goal.returns
returns g c =
    let b = g.B.Board.arena c.args.self.now.solver.board.now in
    let h = items_from_extend c.extend.result c.extend.ensures.ran (YieldsList-from_filter_map _ (row_if b) (YieldsList-from_range 0 b.positions b.positions (cc) (omega arith)) c.filter_map.ensures.closure (λ x r q k. search (rules, tests))) in
    let e = rows_listed b b.positions 0 in
    search rules
