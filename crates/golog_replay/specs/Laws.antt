-- What a replay finds, in the words of a run.
use Rattle.std.specs.Prelude.{◌≡◌, ℕ, Option, Ok, Contains}
use Rattle.golog_tree.specs.declared.agent.Agent.{Agent}
use Rattle.golog_semantics.specs.declared.journal.Answer.{Answer}
use Rattle.golog_semantics.specs.declared.journal.Entry.TheVariants.{End}
use Rattle.golog_semantics.specs.declared.journal.Report.{Report}
use Rattle.golog_semantics.specs.Execution.{IsOnlineRun, status_of}
use Rattle.golog_semantics.specs.Online.{IsOnline}
use Rattle.golog_semantics.specs.ReportLaws.{TellsApart}
use Rattle.golog_semantics.specs.Reports.{SpellsReport}
use Rattle.golog_semantics.specs.Restart.{started}
use Rattle.golog_semantics.specs.Text.{Text}
use Rattle.golog_semantics.specs.Truth.{Values}
use Rattle.golog_semantics.specs.WellFormed.{WellFormed}
use Rattle.golog_reports.specs.Reads.{journal_of}
use Rattle.golog_semantics.specs.declared.journal.Verdict.TheVariants.{Online}
use Rattle.golog_semantics.specs.Verdicts.{VerdictIs}

-- a report is online with an answer exactly where it is an online execution, from its own start, that ends with it,
-- and the bytes are its text; so the bytes are then those of a run from this start with this status
pub record ReplaysOnline (agent : Agent) (bytes : Text) (report : Report) (answer : Answer) : Type 0 where
  pub run : VerdictIs (started agent report.start) bytes report (Online answer)
      → IsOnlineRun agent report.start bytes (status_of answer)
  pub online : VerdictIs (started agent report.start) bytes report (Online answer)
      → IsOnline (started agent report.start) report
  pub spelled : VerdictIs (started agent report.start) bytes report (Online answer) → SpellsReport agent bytes report
  pub verdict : SpellsReport agent bytes report → IsOnline (started agent report.start) report
      → Contains report.entries (End answer) → VerdictIs (started agent report.start) bytes report (Online answer)

-- so it is for each report that was read
abbrev pub OnlineIsAnOnlineRun : Type 0
OnlineIsAnOnlineRun =
    (agent : Agent) → WellFormed agent → (bytes : Text) (report : Report) → (journal_of agent bytes).outcome ≡ Ok report
    → (answer : Answer) → ReplaysOnline agent bytes report answer

-- What a run has printed is read back as its report, and is online with its answer, whichever start it has. So in a
-- chain of runs, each from the journal before, each journal is online, however many there are.
abbrev pub RunsReplayOnline : Type 0
RunsReplayOnline =
    (agent : Agent) → WellFormed agent → TellsApart agent → (start : Option Values) (bytes : Text) (status : ℕ)
    → (run : IsOnlineRun agent start bytes status)
    → ((journal_of agent bytes).outcome ≡ Ok run.report)
    × VerdictIs (started agent start) bytes run.report (Online run.ended.answer)
