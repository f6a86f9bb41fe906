use Rattle.golog_certain.proofs.RunsStay.{runs_stay}
use Rattle.golog_certain.proofs.knowledge.runs_stay.Goals as goal

pub returns : goal.returns
returns c = runs_stay
