use Rattle.composition.proofs.Listing.{states_listed}
use Rattle.composition.proofs.laws.listing.Goals as goal

pub returns : goal.returns
returns c = states_listed
