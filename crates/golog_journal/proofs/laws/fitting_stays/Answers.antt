use Rattle.golog_journal.proofs.Staying.{fitting_stays}
use Rattle.golog_journal.proofs.laws.fitting_stays.Goals as goal

pub returns : goal.returns
returns c = fitting_stays
