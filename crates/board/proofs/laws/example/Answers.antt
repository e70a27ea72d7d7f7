use Rattle.std.proofs.Common.{refl}
use Rattle.wire.specs.Number.{number_at}
use Rattle.board.proofs.laws.example.Goals as goal

pub returns : goal.returns
unfolding number_at
returns c = refl
