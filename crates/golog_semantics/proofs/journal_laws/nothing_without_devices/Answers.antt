use Rattle.golog_semantics.proofs.LaterRuns.{waits_for_nothing}
use Rattle.golog_semantics.proofs.journal_laws.nothing_without_devices.Goals as goal

pub returns : goal.returns
returns c = waits_for_nothing
