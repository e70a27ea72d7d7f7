-- What a task means.
use Rattle.std.specs.Prelude.{vec_items}
use Rattle.ltlf.specs.declared.task.Task.{Task}
use Rattle.ltlf.specs.Formula.{Formula}
use Rattle.ltlf.specs.Nodes.{formula_of}

-- the formula of a task; the zero task's is satisfied by no trace
abbrev pub task_formula : Task → Formula
task_formula t = formula_of (vec_items t.nodes)
