use Rattle.golog_laws.proofs.ProgramLaws.{has_no_runs}
use Rattle.golog_laws.proofs.programs.well_formed_has_no_runs.Goals as goal

pub returns : goal.returns
returns c = has_no_runs
