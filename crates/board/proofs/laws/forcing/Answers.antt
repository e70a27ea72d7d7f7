use Rattle.board.proofs.Ranking.{every_play_succeeds, forces_is_within}
use Rattle.board.proofs.laws.forcing.Goals as goal

pub returns : goal.returns
returns c = record { plays = every_play_succeeds; steps = forces_is_within }
