use Rattle.golog_semantics.proofs.BestRuns.{best_is_least}
use Rattle.golog_semantics.proofs.journal_laws.best_is_least.Goals as goal

pub returns : goal.returns
returns c = best_is_least
