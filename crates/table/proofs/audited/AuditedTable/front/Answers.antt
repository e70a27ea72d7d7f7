use Rattle.std.proofs.Common.{◌≡◌, ◌-◌, ◌*◌, ◌<◌, length, get_or, sym, subst, arith}
use Rattle.board.specs.declared.table.Row.{Row}
use Rattle.table.proofs.Finding.{front_enough}
use Rattle.table.proofs.audited.AuditedTable.front.Goals as goal
use Rattle.table.proofs.audited.AuditedTable.front.Goals.{then-loop-end-test+else-index-position, else-loop-end-test}

pub loop-end-smaller : goal.loop-end-smaller
loop-end-smaller c =
    let rows = c.args.self.now.rows.items in
    let falls : length rows - c.loop-end.end * 2 < length rows - c.loop-end.end = omega (arith, c.loop-end.invariant, c.loop-end-test.true, c.len.ensures) in
    falls

pub returns-clause-enough : goal.returns-clause-enough
returns-clause-enough c =
    let rows = c.args.self.now.rows.items in
    let p = c.args.position in
    front_enough rows c.args.self.now.rising p c.min.result (λ l. elim c.loop-end-test.branch [
      | then-loop-end-test+else-index-position w ↦
          let same : c.min.result ≡ c.loop-end.end = omega (arith, c.min.ensures, c.len.ensures, c.len-2.ensures, w.loop-end-test.true) in
          let d = w.index.result.now in
          (d, subst (λ e. p < (get_or rows e d).position) (sym same) (subst (λ (r : Row). p < r.position) w.index.ensures (omega (arith, w.if-index-position.false))))
      | else-loop-end-test w ↦ absurd (omega (arith, l, c.min.ensures, c.len.ensures, c.len-2.ensures, w.loop-end-test.false))
    ])
