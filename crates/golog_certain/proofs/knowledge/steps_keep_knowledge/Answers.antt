use Rattle.golog_certain.proofs.RunsStay.{steps_keep}
use Rattle.golog_certain.proofs.knowledge.steps_keep_knowledge.Goals as goal

pub returns : goal.returns
returns c = steps_keep
