use Rattle.service.proofs.Files.{services_law, services_lawful}
use Rattle.service.proofs.file.reader.read_services.Goals as goal

pub returns-then-is_err-clause-law : goal.returns-then-is_err-clause-law
returns-then-is_err-clause-law c = services_law _ (λ i. (c.type_inv.bytes i).fits)

pub returns-else-is_err-clause-law : goal.returns-else-is_err-clause-law
returns-else-is_err-clause-law c = services_law _ (λ i. (c.type_inv.bytes i).fits)

pub returns-else-is_err-clause-lawful : goal.returns-else-is_err-clause-lawful
returns-else-is_err-clause-lawful c = services_lawful _ (λ i. (c.type_inv.bytes i).fits)
