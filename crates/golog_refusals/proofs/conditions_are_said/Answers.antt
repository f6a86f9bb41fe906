use Rattle.golog_refusals.proofs.CondsSaid.{conds-are-said}
use Rattle.golog_refusals.proofs.conditions_are_said.Goals as goal

pub returns : goal.returns
returns c = conds-are-said
