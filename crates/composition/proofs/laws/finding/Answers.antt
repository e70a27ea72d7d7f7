use Rattle.composition.proofs.Founds.{found_is_composed, found_is_composition}
use Rattle.composition.proofs.laws.finding.Goals as goal

pub returns : goal.returns
returns c = record { composed = found_is_composed; composition = found_is_composition }
