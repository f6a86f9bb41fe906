use Rattle.golog_journal.proofs.Serving.{well_formed_serves}
use Rattle.golog_journal.proofs.laws.well_formed_serves.Goals as goal

pub returns : goal.returns
returns c = well_formed_serves
