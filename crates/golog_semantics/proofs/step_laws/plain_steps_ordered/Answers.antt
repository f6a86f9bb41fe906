use Rattle.golog_semantics.proofs.StepsInModes.{plain_steps-ordered}
use Rattle.golog_semantics.proofs.step_laws.plain_steps_ordered.Goals as goal

pub returns : goal.returns
returns c = plain_steps-ordered
