use Rattle.golog_semantics.proofs.BestRuns.{runs_are_sound}
use Rattle.golog_semantics.proofs.journal_laws.runs_are_sound.Goals as goal

pub returns : goal.returns
returns c = runs_are_sound
