use Rattle.golog_semantics.proofs.LaterRuns.{later_runs}
use Rattle.golog_semantics.proofs.journal_laws.later_runs_change_nothing.Goals as goal

pub returns : goal.returns
returns c = later_runs
