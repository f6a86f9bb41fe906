use Rattle.golog_semantics.proofs.Levels.{level_is}
use Rattle.golog_semantics.proofs.journal_laws.levels_are_reached.Goals as goal

pub returns : goal.returns
returns c = level_is
