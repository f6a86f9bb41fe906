use Rattle.golog_laws.proofs.ProgramLaws.{plainly_written}
use Rattle.golog_laws.proofs.programs.plainly_written.Goals as goal

pub returns : goal.returns
returns c = plainly_written
