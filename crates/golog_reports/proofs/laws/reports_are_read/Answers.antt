use Rattle.golog_reports.proofs.WholeReports.{journal-fits}
use Rattle.golog_reports.proofs.laws.reports_are_read.Goals as goal

pub returns : goal.returns
returns c = journal-fits
