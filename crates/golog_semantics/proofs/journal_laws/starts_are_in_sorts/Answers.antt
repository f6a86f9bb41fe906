use Rattle.golog_semantics.proofs.WellNamed.{starts_in_sorts}
use Rattle.golog_semantics.proofs.journal_laws.starts_are_in_sorts.Goals as goal

pub returns : goal.returns
returns c = starts_in_sorts
