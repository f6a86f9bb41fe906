use Rattle.golog_check.proofs.CondLaws.{conds-fit}
use Rattle.golog_check.proofs.laws.conds_fit.Goals as goal

pub returns : goal.returns
returns c = conds-fit
