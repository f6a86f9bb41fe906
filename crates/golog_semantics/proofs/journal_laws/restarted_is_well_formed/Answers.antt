use Rattle.golog_semantics.proofs.Restarted.{restarted_fits}
use Rattle.golog_semantics.proofs.journal_laws.restarted_is_well_formed.Goals as goal

pub returns : goal.returns
returns c = λ agent values fits sorts. restarted_fits agent values fits sorts
