use Rattle.std.proofs.Common.{Err, rules}
use Rattle.board.proofs.Rows.{solve_law}
use Rattle.board.proofs.solve.solve.Goals as goal

pub returns-then-is_none-clause-law : goal.returns-then-is_none-clause-law
returns-then-is_none-clause-law g c = solve_law _ (g.B.Board.lawful c.args.board.now) (Err c.at.result) c.clear.new.self.items (search rules)

pub returns-then-is_err-clause-law : goal.returns-then-is_err-clause-law
returns-then-is_err-clause-law g c = solve_law _ (g.B.Board.lawful c.args.board.now) c.fill-filled.result c.clear-then-is_err.new.self.items (search rules)

pub returns-else-is_err-clause-law : goal.returns-else-is_err-clause-law
returns-else-is_err-clause-law g c = solve_law _ (g.B.Board.lawful c.args.board.now) c.fill-filled.result c.fill-filled.new.rows.items (search rules)
