use Rattle.composition.proofs.Bridges.{law_of_composition}
use Rattle.composition.proofs.laws.composing.Goals as goal

pub returns : goal.returns
returns c = law_of_composition
