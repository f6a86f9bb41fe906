use Rattle.golog_laws.proofs.WrongExamples.{scripted_turns}
use Rattle.golog_laws.proofs.examples.scripted_turns.Goals as goal

pub returns : goal.returns
returns c = scripted_turns
