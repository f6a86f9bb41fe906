use Rattle.golog_file.proofs.CondExcluded.{one-cond}
use Rattle.golog_file.proofs.laws.one_cond_is_spelled.Goals as goal

pub returns : goal.returns
returns c = one-cond
