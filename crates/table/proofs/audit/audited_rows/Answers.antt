use Rattle.std.proofs.Common.{◌≡◌, ◌<◌, Bool, true, not, is_some, slice_index_or, Some, None, Ok, Err, vec_items, sym, ap, ◌∙◌, inl, arith, rules}
use Rattle.std.specs.List.{find}
use Rattle.wire.specs.Readers.{ended}
use Rattle.board.specs.Rounds.{held}
use Rattle.table.specs.declared.audit.Placed.{Placed}
use Rattle.table.specs.Audit.{count_at, row_at, leads}
use Rattle.table.proofs.Forms.{row_parts}
use Rattle.table.proofs.Turns.{reading_none, reading_more, reading_stops, reading_left, reading_loose, reading_whole}
use Rattle.table.proofs.audit.audited_rows.Goals as goal

pub loop-init : goal.loop-init
loop-init g c =
    let b = g.B.Board.arena c.args.board.now in
    let counted : count_at b c.args.bytes.now ≡ Ok (c.in_ok-count.count, c.count.new.self.numbers.at) = search rules in
    (search rules, search rules, reading_none _ _ _ c.count.new.self.floor _ _ _ counted (search rules) c.new-rows.ensures.items c.none-ranks.ensures)

pub returns-in_err-row : goal.returns-in_err-row
returns-in_err-row g c =
    let w = reading_stops _ _ _ _ _ _ _ _ c.loop.invariant.2 c.loop-test.true in
    search rules

pub loop-preserved : goal.loop-preserved
loop-preserved g c =
    let b = g.B.Board.arena c.args.board.now in
    let r = c.in_ok-row.row in
    let read : row_at b c.args.bytes.now c.loop.reader.floor c.loop.reader.numbers.at ≡ Ok (r, c.row.new.self.numbers.at) = search rules in
    let parts = row_parts b c.args.bytes.now c.loop.reader.floor c.loop.reader.numbers.at (r, c.row.new.self.numbers.at) read in
    let below : r.position < 1024 = omega (arith, parts.on, (g.B.Board.lawful c.args.board.now).few_positions) in
    let w = reading_more _ _ _ _ _ _ _ _ c.loop.invariant.2 c.loop-test.true r c.row.new.self.numbers.at below parts.above read in
    search rules

pub returns-in_err-finish : goal.returns-in_err-finish
returns-in_err-finish g c =
    let w = reading_left _ _ _ _ _ _ _ _ c.loop.invariant.2 c.loop-test.false in
    search rules

pub returns-in-Some : goal.returns-in-Some
returns-in-Some g c =
    let done : ended c.args.bytes.now c.loop.reader.numbers.at ≡ Ok tt = search rules in
    let some : is_some (slice_index_or c.loop.ranks.of 0 None) ≡ true = search rules in
    let loose : Placed → Bool = λ (x : Placed). not (leads (g.B.Board.arena c.args.board.now) (held c.loop.ranks.of) x.row) in
    let found : find loose (vec_items c.loop.rows) ≡ Some c.in-Some.loose = ap (find loose) (sym c.deref.ensures.value) ∙ sym c.in-Some.ensures in
    inl (reading_loose _ _ _ _ _ _ _ _ c.loop.invariant.2 c.loop-test.false done some c.in-Some.loose found ∙ ap Err (sym c.at-in-Some.ensures))

pub returns : goal.returns
returns g c =
    let done : ended c.args.bytes.now c.loop.reader.numbers.at ≡ Ok tt = search rules in
    let some : is_some (slice_index_or c.loop.ranks.of 0 None) ≡ true = search rules in
    let loose : Placed → Bool = λ (x : Placed). not (leads (g.B.Board.arena c.args.board.now) (held c.loop.ranks.of) x.row) in
    let found : find loose (vec_items c.loop.rows) ≡ None = ap (find loose) (sym c.deref.ensures.value) ∙ sym c.in_default.ensures in
    let w = reading_whole _ _ _ _ _ _ _ _ c.loop.invariant.2 c.loop-test.false done some found in
    search rules
