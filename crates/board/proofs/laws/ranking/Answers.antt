use Rattle.board.proofs.Ranking.{won_is_forced, ranked_is_forced, rank_is_least, hopeless}
use Rattle.board.proofs.laws.ranking.Goals as goal

pub returns : goal.returns
returns c = record { won = won_is_forced; ranked = ranked_is_forced; least = rank_is_least; hopeless = hopeless }
