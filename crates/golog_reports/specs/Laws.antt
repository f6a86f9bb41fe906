-- Laws of journals that are read.
use Rattle.std.specs.Prelude.{◌≡◌, ℕ, IsTrue, List, ◌∷◌, ◌++◌, Result, Ok, Err, Some}
use Rattle.golog_rows.specs.Reading.{first}
use Rattle.golog_tree.specs.declared.agent.Agent.{Agent}
use Rattle.golog_semantics.specs.declared.journal.Entry.{Entry}
use Rattle.golog_semantics.specs.declared.journal.Report.{Report}
use Rattle.golog_semantics.specs.Journal.{Journal}
use Rattle.golog_semantics.specs.Online.{IsOnline, keeps_text}
use Rattle.golog_semantics.specs.Reports.{IsReport, SpellsReport}
use Rattle.golog_semantics.specs.ReportLaws.{TellsApart}
use Rattle.golog_semantics.specs.Restart.{journal_text, migrated, started}
use Rattle.golog_semantics.specs.Text.{Text}
use Rattle.golog_semantics.specs.Verdicts.{entry_lines}
use Rattle.golog_semantics.specs.WellFormed.{WellFormed}
use Rattle.golog_reports.specs.Said.{Said, is_said, said_text, said_in}
use Rattle.golog_reports.specs.Reads.{journal_of}
use Rattle.golog_reports.specs.ReadsAs.{ReadsAs}

-- a report that a text says has a text of its own
abbrev pub ReportsAreRead : Type 0
ReportsAreRead =
    (agent : Agent) → WellFormed agent → (bytes : Text) (report : Report) → (journal_of agent bytes).outcome ≡ Ok report
    → IsReport agent report

-- a line says that of which it is the text, in words of their forms, and nothing else
abbrev pub LinesSayTheirTexts : Type 0
LinesSayTheirTexts =
    (line : Text) (said : Said)
    → (said_in line ≡ Some said → IsTrue (is_said said) × (said_text said ≡ line))
    × (IsTrue (is_said said) → said_text said ≡ line → said_in line ≡ Some said)

-- A text that is read as a report says it line by line. Where the agent tells its things apart, a text that says
-- a report is read as that report, so it is not refused.
abbrev pub JournalIsRead : Type 0
JournalIsRead =
    (agent : Agent) → WellFormed agent → (bytes : Text) (report : Report)
    → ((journal_of agent bytes).outcome ≡ Ok report → ReadsAs agent bytes report)
    × (TellsApart agent → ReadsAs agent bytes report → (journal_of agent bytes).outcome ≡ Ok report)

-- what is read says this report and no other, and what is refused says none, and is refused by its first row
abbrev pub IsReadOrRefused : Agent → Text → Result Report (ℕ × ℕ) → Type 0
IsReadOrRefused agent bytes (Ok report) =
    ReadsAs agent bytes report × ((other : Report) → ReadsAs agent bytes other → other ≡ report)
IsReadOrRefused agent bytes (Err refusal) =
    (first (journal_of agent bytes).rows ≡ Some refusal) × ((report : Report) → ReadsAs agent bytes report → ⊥)

-- each text is read as the one report that it says, or it says none, and is refused with one code at one line
abbrev pub ReadOrRefused : Type 0
ReadOrRefused =
    (agent : Agent) → WellFormed agent → TellsApart agent → (bytes : Text)
    → IsReadOrRefused agent bytes (journal_of agent bytes).outcome

-- the text of a report is read as that report
abbrev pub WrittenReadsBack : Type 0
WrittenReadsBack =
    (agent : Agent) → WellFormed agent → TellsApart agent → (report : Report) → IsReport agent report
    → (journal_of agent (journal_text agent report)).outcome ≡ Ok report

-- the report with its start written out has a text, which is read as it, and it is online where the report is
pub record IsMigrated (agent : Agent) (report : Report) : Type 0 where
  pub fits : IsReport agent (migrated agent report)
  pub read : (journal_of agent (journal_text agent (migrated agent report))).outcome ≡ Ok (migrated agent report)
  pub online : IsOnline (started agent report.start) report
      → IsOnline (started agent (migrated agent report).start) (migrated agent report)

abbrev pub MigratedReadsBack : Type 0
MigratedReadsBack =
    (agent : Agent) → WellFormed agent → TellsApart agent → (report : Report) → IsReport agent report
    → IsMigrated agent report

-- each of these lines is the text of its entry, for the agent that starts from the report's start
abbrev pub TextsAreKept : Agent → Report → List Text → Type 0
TextsAreKept agent report lines =
    (before : Journal) (e : Entry) (later : Journal) → report.entries ≡ before ++ e ∷ later
    → IsTrue (keeps_text agent before report.runs (Some lines) e)

-- a text that is read as a report is the report's own text exactly where each line is the text of its entry
abbrev pub ReadIsSpelled : Type 0
ReadIsSpelled =
    (agent : Agent) → WellFormed agent → TellsApart agent → (bytes : Text) (report : Report)
    → (journal_of agent bytes).outcome ≡ Ok report
    → (TextsAreKept (started agent report.start) report (entry_lines agent bytes report.start)
    → SpellsReport agent bytes report)
    × (SpellsReport agent bytes report
    → TextsAreKept (started agent report.start) report (entry_lines agent bytes report.start))
