use Rattle.golog_laws.proofs.CertainIsNear.{no_near_no_certain}
use Rattle.golog_laws.proofs.programs.no_near_no_certain.Goals as goal

pub returns : goal.returns
returns c = λ agent bodies values p h e. no_near_no_certain agent values bodies p h e
