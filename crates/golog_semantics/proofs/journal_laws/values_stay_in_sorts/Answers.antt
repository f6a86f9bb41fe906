use Rattle.golog_semantics.proofs.CausesKeep.{values_stay_in_sorts}
use Rattle.golog_semantics.proofs.journal_laws.values_stay_in_sorts.Goals as goal

pub returns : goal.returns
returns c = values_stay_in_sorts
