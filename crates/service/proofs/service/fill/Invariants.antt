use Rattle.std.proofs.Common.{◌≡◌, ◌-◌, ◌++◌, [], drop}
use Rattle.wire.specs.Reading.{steps}
use Rattle.service.specs.File.{slot, row_of, table_of}
use Rattle.service.proofs.service.fill.Given as goal

abbrev pub invariant-loop-row : goal.invariant-loop-row
invariant-loop-row l =
    record {
      bytes : l.reader.bytes.now ≡ l.fn.reader.bytes.now;
      reads : steps (slot [] (row_of l.fn.reader.bytes.now l.actions l.high)) (l.states - l.row-index) l.row-index (l.reader.at, l.row-items ++ drop l.states l.fn.x.entries) ≡ table_of l.fn.reader.bytes.now l.states l.actions l.high l.initial.reader.at l.fn.x.entries;
    }
