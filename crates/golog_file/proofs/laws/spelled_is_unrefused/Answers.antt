use Rattle.golog_file.proofs.Excluded.{excluded}
use Rattle.golog_file.proofs.laws.spelled_is_unrefused.Goals as goal

pub returns : goal.returns
returns c = excluded
