use Rattle.golog_semantics.proofs.StepsInModes.{near_steps-possible}
use Rattle.golog_semantics.proofs.step_laws.near_steps_are_possible.Goals as goal

pub returns : goal.returns
returns c = near_steps-possible
