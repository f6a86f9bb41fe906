use Rattle.golog_laws.proofs.WrongExamples.{steps_in_worlds}
use Rattle.golog_laws.proofs.examples.steps_in_worlds.Goals as goal

pub returns : goal.returns
returns c = steps_in_worlds
