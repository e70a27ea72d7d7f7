use Rattle.std.proofs.Common.{vec_items}
use Rattle.table.proofs.Laws.{audit_law}
use Rattle.table.proofs.Finding.{rising}
use Rattle.table.proofs.audited.audit.Goals as goal

pub returns-in_err-rows-clause-law : goal.returns-in_err-rows-clause-law
returns-in_err-rows-clause-law g c = audit_law (g.B.Board.arena c.args.board.now) (g.B.Board.lawful c.args.board.now) c.args.bytes.now (λ i. (c.type_inv.bytes i).fits)

pub invariant_of-result : goal.invariant_of-result
invariant_of-result g c =
    let law = audit_law (g.B.Board.arena c.args.board.now) (g.B.Board.lawful c.args.board.now) c.args.bytes.now (λ i. (c.type_inv.bytes i).fits) in
    record { rising = rising (vec_items c.in_ok-rows.rows) (law.accepted (vec_items c.in_ok-rows.rows) c.in_ok-rows.ensures).2.ascending }

pub returns-clause-law : goal.returns-clause-law
returns-clause-law g c = audit_law (g.B.Board.arena c.args.board.now) (g.B.Board.lawful c.args.board.now) c.args.bytes.now (λ i. (c.type_inv.bytes i).fits)
