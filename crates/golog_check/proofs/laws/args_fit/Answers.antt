use Rattle.golog_check.proofs.ArgLaws.{args-fit}
use Rattle.golog_check.proofs.laws.args_fit.Goals as goal

pub returns : goal.returns
returns c = args-fit
