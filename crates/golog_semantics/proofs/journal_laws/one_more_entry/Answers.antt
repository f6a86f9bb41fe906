use Rattle.golog_semantics.proofs.Grown.{entries_grow}
use Rattle.golog_semantics.proofs.journal_laws.one_more_entry.Goals as goal

pub returns : goal.returns
returns c = entries_grow
