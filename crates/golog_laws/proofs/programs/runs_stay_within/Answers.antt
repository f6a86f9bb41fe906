use Rattle.golog_laws.proofs.RunsStayWithin.{runs_stay_within}
use Rattle.golog_laws.proofs.programs.runs_stay_within.Goals as goal

pub returns : goal.returns
returns c = λ agent bodies values m p h step k. runs_stay_within agent bodies values m p h step k
