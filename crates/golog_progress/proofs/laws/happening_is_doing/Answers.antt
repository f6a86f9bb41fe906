use Rattle.golog_progress.proofs.Rolled.{happening_is_doing}
use Rattle.golog_progress.proofs.laws.happening_is_doing.Goals as goal

pub returns : goal.returns
returns c = happening_is_doing
