use Rattle.board.proofs.Tables.{solution_is_ranked, solution_is_accepted, accepted_forces, accepted_is_above}
use Rattle.board.proofs.laws.tabling.Goals as goal

pub returns : goal.returns
returns c = record { ranked = solution_is_ranked; accepted = solution_is_accepted; forces = accepted_forces; above = accepted_is_above }
