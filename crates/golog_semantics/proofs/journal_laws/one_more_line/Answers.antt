use Rattle.golog_semantics.proofs.Grown.{report_grows}
use Rattle.golog_semantics.proofs.journal_laws.one_more_line.Goals as goal

pub returns : goal.returns
returns c = report_grows
