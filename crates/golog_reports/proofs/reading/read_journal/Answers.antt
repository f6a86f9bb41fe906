use Rattle.golog_reports.proofs.WholeReports.{answer-fits}
use Rattle.golog_reports.proofs.reading.read_journal.Goals as goal

pub returns-clause-fits : goal.returns-clause-fits
returns-clause-fits c = answer-fits c.args.agent.now c.requires c.args.bytes.now c.report_in-report.result c.report_in-report.ensures
