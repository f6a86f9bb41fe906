use Rattle.golog_fronts.proofs.WellFormedFits.{well_formed_fits}
use Rattle.golog_fronts.proofs.laws.well_formed_is_fit.Goals as goal

pub returns : goal.returns
returns c = well_formed_fits
