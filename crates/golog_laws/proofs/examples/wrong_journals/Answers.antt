use Rattle.golog_laws.proofs.WrongExamples.{wrong_journals}
use Rattle.golog_laws.proofs.examples.wrong_journals.Goals as goal

pub returns : goal.returns
returns c = wrong_journals
