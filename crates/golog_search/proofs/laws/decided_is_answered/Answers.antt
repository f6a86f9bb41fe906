use Rattle.golog_search.proofs.Answering.{decided_answered}
use Rattle.golog_search.proofs.laws.decided_is_answered.Goals as goal

pub returns : goal.returns
returns c = decided_answered
