use Rattle.golog_semantics.specs.Restart.{journal_text}
use Rattle.golog_reports.proofs.JournalBack.{said-is-read}
use Rattle.golog_reports.proofs.WrittenSaid.{written-says}
use Rattle.golog_reports.proofs.laws.written_reads_back.Goals as goal

pub returns : goal.returns
returns c = λ agent well apart report fits.
    said-is-read agent well apart report fits (journal_text agent report) (written-says agent well report fits)
