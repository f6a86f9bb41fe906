use Rattle.golog_file.proofs.Asked.{asked}
use Rattle.golog_file.proofs.laws.read_conditions_stay_kept.Goals as goal

pub returns : goal.returns
returns c = asked
