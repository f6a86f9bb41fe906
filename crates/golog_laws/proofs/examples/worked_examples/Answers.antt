use Rattle.golog_laws.proofs.OnlineExamples.{worked_examples}
use Rattle.golog_laws.proofs.examples.worked_examples.Goals as goal

pub returns : goal.returns
returns c = worked_examples
