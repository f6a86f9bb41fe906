use Rattle.golog_file.proofs.CondExcluded.{cond-excluded}
use Rattle.golog_file.proofs.laws.spelled_cond_is_unrefused.Goals as goal

pub returns : goal.returns
returns c = cond-excluded
