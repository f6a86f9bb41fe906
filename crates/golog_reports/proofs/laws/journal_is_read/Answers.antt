use Rattle.golog_reports.proofs.JournalBack.{said-is-read}
use Rattle.golog_reports.proofs.JournalOnly.{read-says}
use Rattle.golog_reports.proofs.laws.journal_is_read.Goals as goal

pub returns : goal.returns
returns c = λ agent well bytes report. (
  λ e. read-says agent well bytes report e,
  λ apart said. said-is-read agent well apart report said.fits bytes said,
)
