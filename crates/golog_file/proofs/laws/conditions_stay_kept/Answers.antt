use Rattle.golog_file.proofs.Signatures.{keeps}
use Rattle.golog_file.proofs.laws.conditions_stay_kept.Goals as goal

pub returns : goal.returns
returns c = keeps
