use Rattle.golog_semantics.proofs.SortsStay.{sorts_stay}
use Rattle.golog_semantics.proofs.journal_laws.sorts_stay.Goals as goal

pub returns : goal.returns
returns c = sorts_stay
