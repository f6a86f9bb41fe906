use Rattle.golog_certain.proofs.StepsSo.{certain_is_trans, trans_is_possible}
use Rattle.golog_certain.proofs.worlds.steps_are_so.Goals as goal

pub returns : goal.returns
returns c = λ agent w values world r p h. (certain_is_trans agent w values world r p h, trans_is_possible agent w values world r p h)
