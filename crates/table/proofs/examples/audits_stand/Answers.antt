use Rattle.std.proofs.Common.{refl}
use Rattle.wire.specs.Number.{number_at}
use Rattle.table.specs.Audit.{audit_of, row_at}
use Rattle.table.proofs.examples.audits_stand.Goals as goal

pub returns : goal.returns
unfolding audit_of row_at number_at
returns c = record { accepted = refl; not_lower = refl; no_row = refl }
