use Rattle.golog_semantics.proofs.StepsInModes.{ends-ordered}
use Rattle.golog_semantics.proofs.step_laws.ends_ordered.Goals as goal

pub returns : goal.returns
returns c = ends-ordered
