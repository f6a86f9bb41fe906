use Rattle.golog_progress.proofs.Rolled.{values_go_on}
use Rattle.golog_progress.proofs.laws.values_go_on.Goals as goal

pub returns : goal.returns
returns c = values_go_on
