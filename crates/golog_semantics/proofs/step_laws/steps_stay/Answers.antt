use Rattle.golog_semantics.proofs.BlocksFit.{step_stays}
use Rattle.golog_semantics.proofs.step_laws.steps_stay.Goals as goal

pub returns : goal.returns
returns _ = λ agent p values m q h step c. step_stays agent p values m q h step c
