use Rattle.golog_semantics.proofs.LaterRuns.{whole_is_online}
use Rattle.golog_semantics.proofs.journal_laws.online_is_whole.Goals as goal

pub returns : goal.returns
returns c = whole_is_online
