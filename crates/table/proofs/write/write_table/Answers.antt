use Rattle.std.proofs.Common.{rules, refl}
use Rattle.table.proofs.Putting.{count_fails, put_on_none, put_on_more, no_row}
use Rattle.table.proofs.write.write_table.Goals as goal

pub returns-in_err-number : goal.returns-in_err-number
returns-in_err-number c =
    let w = count_fails c.args.rows.now c.args.output.now c.in-Ok.count (search rules) _ c.number.new.self.output.now c.in_err-number.ensures.puts in
    search rules

pub loop-row-init : goal.loop-row-init
loop-row-init c = (put_on_none c.args.rows.now c.args.output.now c.in-Ok.count (search rules) c.number.new.self c.in_ok-number.ensures.puts, refl)

pub loop-row-preserved : goal.loop-row-preserved
loop-row-preserved c = (put_on_more c.args.rows.now c.args.output.now c.loop-row.row-index c.loop-row.writer no_row c.loop-row.invariant.0 c.loop-row-test.true c.row.new.self c.in_ok-row.ensures.puts, search rules)
