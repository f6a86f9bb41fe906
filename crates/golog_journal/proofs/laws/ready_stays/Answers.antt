use Rattle.golog_journal.proofs.Staying.{ready_stays}
use Rattle.golog_journal.proofs.laws.ready_stays.Goals as goal

pub returns : goal.returns
returns c = ready_stays
