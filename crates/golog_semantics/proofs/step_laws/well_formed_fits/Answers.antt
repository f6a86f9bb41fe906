use Rattle.golog_semantics.proofs.LeftFits.{procs_fit}
use Rattle.golog_semantics.proofs.step_laws.well_formed_fits.Goals as goal

pub returns : goal.returns
returns c = procs_fit
