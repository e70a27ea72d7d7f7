use Rattle.std.proofs.Common.{◌≡◌, ◌-◌}
use Rattle.wire.specs.Reading.{steps}
use Rattle.service.specs.File.{slot, service_of, services_of, no_service}
use Rattle.service.proofs.file.CommunityFile.fill_services.Given as goal

abbrev pub invariant-loop-i : goal.invariant-loop-i
invariant-loop-i l =
    record {
      bytes : l.reader.bytes.now ≡ l.fn.reader.bytes.now;
      shape : (l.self.count ≡ l.fn.self.count) × (l.self.actions ≡ l.fn.self.actions);
      reads : steps (slot no_service (service_of l.fn.reader.bytes.now l.fn.self.actions)) (l.i-end - l.i) l.i (l.reader.at, l.self.services) ≡ services_of l.fn.reader.bytes.now l.i-end l.fn.self.actions l.fn.reader.at l.fn.self.services;
    }
