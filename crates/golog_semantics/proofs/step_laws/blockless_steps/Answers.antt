use Rattle.golog_semantics.proofs.NoBlocks.{blockless_steps}
use Rattle.golog_semantics.proofs.step_laws.blockless_steps.Goals as goal

pub returns : goal.returns
returns c = blockless_steps
