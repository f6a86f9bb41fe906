use Rattle.golog_semantics.proofs.CausesKeep.{steps_stay_in_sorts}
use Rattle.golog_semantics.proofs.journal_laws.steps_stay_in_sorts.Goals as goal

pub returns : goal.returns
returns c = steps_stay_in_sorts
