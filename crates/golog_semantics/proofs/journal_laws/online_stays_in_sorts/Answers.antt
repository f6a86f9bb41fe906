use Rattle.golog_semantics.proofs.OnlineSorts.{online_stays}
use Rattle.golog_semantics.proofs.journal_laws.online_stays_in_sorts.Goals as goal

pub returns : goal.returns
returns c = online_stays
