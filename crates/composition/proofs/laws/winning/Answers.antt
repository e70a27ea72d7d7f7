use Rattle.composition.proofs.Bridges.{won_after_story}
use Rattle.composition.proofs.laws.winning.Goals as goal

pub returns : goal.returns
returns c = won_after_story
