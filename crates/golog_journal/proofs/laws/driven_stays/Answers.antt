use Rattle.golog_journal.proofs.Staying.{driven_stays}
use Rattle.golog_journal.proofs.laws.driven_stays.Goals as goal

pub returns : goal.returns
returns c = driven_stays
