use Rattle.board.proofs.Ranking.{rounds_end, law_of_rounds}
use Rattle.board.proofs.laws.rounding.Goals as goal

pub returns : goal.returns
returns c = record { ends = rounds_end; finds = law_of_rounds }
