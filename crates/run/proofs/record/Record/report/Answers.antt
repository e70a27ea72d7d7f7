use Rattle.std.proofs.Common.{rules, ◌∙◌}
use Rattle.run.proofs.Outcomes.{contains_has}
use Rattle.run.proofs.«record».Record.report.Goals as goal

pub returns-then-not-contains : goal.returns-then-not-contains
returns-then-not-contains g c = let h = c.contains.ensures.value ∙ contains_has c.args.position _ in search (rules, h)
