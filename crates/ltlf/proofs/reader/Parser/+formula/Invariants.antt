use Rattle.ltlf.proofs.reader.Parser.+formula.Given as goal

abbrev pub decreases-formula : goal.decreases-formula
decreases-formula l = l.levels
