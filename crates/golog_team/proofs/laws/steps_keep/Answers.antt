use Rattle.golog_team.proofs.Going.{steps-keep}
use Rattle.golog_team.proofs.laws.steps_keep.Goals as goal

pub returns : goal.returns
returns c = steps-keep
