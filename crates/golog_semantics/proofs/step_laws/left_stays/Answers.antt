use Rattle.golog_semantics.proofs.LeftFits.{left_after-fits}
use Rattle.golog_semantics.proofs.step_laws.left_stays.Goals as goal

pub returns : goal.returns
returns c = left_after-fits
