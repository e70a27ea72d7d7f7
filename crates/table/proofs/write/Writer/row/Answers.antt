use Rattle.std.proofs.Common.{rules, Ok}
use Rattle.wire.specs.Number.{groups}
use Rattle.table.specs.Writing.{Adds}
use Rattle.table.proofs.Putting.{row_blank, row_played}
use Rattle.table.proofs.write.Writer.row.Goals as goal

pub returns-in_ok-number-3-clause-puts : goal.returns-in_ok-number-3-clause-puts
returns-in_ok-number-3-clause-puts c =
    let choice : Adds (Ok tt) c.number-2.new.self c.number-then-row-ne0.new.self (groups c.args.row.choice) = search rules in
    row_played c.args.row c.args.self.now c.number.new.self c.in_ok-number.ensures.puts c.number-2.new.self c.in_ok-number-2.ensures.puts (Ok tt) c.number-then-row-ne0.new.self c.if-row-ne0.true choice

pub returns-else-row-ne0-clause-puts : goal.returns-else-row-ne0-clause-puts
returns-else-row-ne0-clause-puts c =
    row_blank c.args.row c.args.self.now c.number.new.self c.in_ok-number.ensures.puts c.number-2.new.self c.in_ok-number-2.ensures.puts c.if-row-ne0.false
