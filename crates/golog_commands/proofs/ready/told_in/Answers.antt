use Rattle.std.proofs.Common.{Err, refl, subst}
use Rattle.golog_semantics.specs.declared.journal.Report.{Report}
use Rattle.golog_reports.specs.declared.fault.TextFault.{TextFault}
use Rattle.golog_reports.specs.Answers.{Answers, IsFirstRow}
use Rattle.golog_reports.specs.Reads.{journal_of}
use Rattle.golog_commands.specs.declared.outcome.Input.TheVariants.{Journal as JournalFile}
use Rattle.golog_commands.specs.Inputs.{RefusesJournal, of_line}
use Rattle.golog_commands.proofs.OutcomeLemmas.{journal-bytes, refused-so}
use Rattle.golog_commands.proofs.ready.told_in.Goals as goal

pub returns-in-Ok-read_journal-clause-reads : goal.returns-in-Ok-read_journal-clause-reads
returns-in-Ok-read_journal-clause-reads g c = record {
  bytes = c.in-Ok.bytes;
  has = c.in-Ok.ensures.read;
  so = record { same = refl; small = c.in-Ok.ensures.small; said = rw c.as_slice.ensures at c.in-Ok-read_journal.ensures.read };
}

pub returns-in-Err-Refused-clause-unready : goal.returns-in-Err-Refused-clause-unready
returns-in-Err-Refused-clause-unready g c =
    let agent = c.args.agent.now in
    let bytes = c.as_slice.result.now in
    let fault = c.in-Err-Refused.field-0-is in
    refused-so JournalFile (g.F.Files.held c.args.files.now) c.args.name.now (g.F.Files.faults c.args.files.now) (g.F.Files.faults c.bytes_in.new.files)
    (RefusesJournal agent) c.refused.result c.in-Ok.bytes c.in-Err-Refused.why c.in-Err-Refused.line c.in-Ok.ensures.read
    (of_line c.in-Err-Refused.why c.in-Err-Refused.line c.in-Ok.ensures.small
    (rw c.as_slice.ensures at (subst {A = TextFault} (λ f. Answers {A = Report} (Err f) (journal_of agent bytes)) fault c.in-Err-Refused.ensures.read))
    (rw c.as_slice.ensures at (subst {A = TextFault} (λ f. IsFirstRow {A = Report} (Err f) (journal_of agent bytes).rows) fault c.in-Err-Refused.ensures.first)))
    c.refused.ensures

pub returns-in-Err-clause-unready : goal.returns-in-Err-clause-unready
returns-in-Err-clause-unready g c =
    journal-bytes c.args.agent.now (g.F.Files.held c.args.files.now) c.args.name.now (g.F.Files.faults c.args.files.now) (g.F.Files.faults c.bytes_in.new.files)
    c.in-Err.unready c.in-Err.ensures.unready
