use Rattle.golog_search.proofs.LeftBlockless.{step_blockless}
use Rattle.golog_search.proofs.laws.blockless_steps.Goals as goal

pub returns : goal.returns
returns c = step_blockless
