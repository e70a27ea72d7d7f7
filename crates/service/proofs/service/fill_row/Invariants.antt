use Rattle.std.proofs.Common.{◌≡◌, ◌-◌, ◌++◌, drop}
use Rattle.wire.specs.Reading.{steps}
use Rattle.service.specs.File.{slot, entry_of, row_of}
use Rattle.service.proofs.service.fill_row.Given as goal

abbrev pub invariant-loop-slot : goal.invariant-loop-slot
invariant-loop-slot l =
    record {
      bytes : l.reader.bytes.now ≡ l.fn.reader.bytes.now;
      reads : steps (slot 0 (entry_of l.fn.reader.bytes.now l.high)) (l.actions - l.slot-index) l.slot-index (l.reader.at, l.slot-items ++ drop l.actions l.fn.row) ≡ row_of l.fn.reader.bytes.now l.actions l.high l.fn.reader.at l.fn.row;
    }
