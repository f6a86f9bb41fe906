use Rattle.golog_semantics.proofs.StepsInModes.{no_possible_no_near}
use Rattle.golog_semantics.proofs.step_laws.no_possible_no_near.Goals as goal

pub returns : goal.returns
returns c = no_possible_no_near
