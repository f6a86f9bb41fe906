use Rattle.golog_semantics.proofs.Grown.{progress_grows}
use Rattle.golog_semantics.proofs.journal_laws.one_more_step.Goals as goal

pub returns : goal.returns
returns c = progress_grows
