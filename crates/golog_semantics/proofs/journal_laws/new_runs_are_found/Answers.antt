use Rattle.golog_semantics.proofs.LaterRuns.{runs_found}
use Rattle.golog_semantics.proofs.journal_laws.new_runs_are_found.Goals as goal

pub returns : goal.returns
returns c = runs_found
