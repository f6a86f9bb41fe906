use Rattle.golog_semantics.proofs.WellNamed.{tells_apart}
use Rattle.golog_semantics.proofs.journal_laws.names_tell_apart.Goals as goal

pub returns : goal.returns
returns c = tells_apart
