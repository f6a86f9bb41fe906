use Rattle.golog_ask.proofs.Reported.{reported}
use Rattle.golog_ask.proofs.laws.entries_of_reports_fit.Goals as goal

pub returns : goal.returns
returns c = reported
