use Rattle.golog_semantics.proofs.Known.{known_is_so}
use Rattle.golog_certain.proofs.knowledge.known_stays.Goals as goal

-- src/knowledge.rt:5:1
pub returns : goal.returns
returns c = known_is_so
