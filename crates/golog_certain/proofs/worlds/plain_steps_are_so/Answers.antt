use Rattle.golog_certain.proofs.PlainSteps.{plain_steps_so}
use Rattle.golog_certain.proofs.worlds.plain_steps_are_so.Goals as goal

pub returns : goal.returns
returns c = plain_steps_so
