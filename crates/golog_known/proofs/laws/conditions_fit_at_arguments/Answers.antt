use Rattle.golog_known.proofs.Arguments.{conditions_fit}
use Rattle.golog_known.proofs.laws.conditions_fit_at_arguments.Goals as goal

pub returns : goal.returns
returns c = conditions_fit
