use Rattle.golog_laws.proofs.ProgramLaws.{constants_put_in}
use Rattle.golog_laws.proofs.programs.constants_put_in.Goals as goal

pub returns : goal.returns
returns c = constants_put_in
