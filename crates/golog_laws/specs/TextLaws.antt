-- Laws of texts: different reports have different texts, and the results in a report that has one are values.
use Rattle.std.specs.Prelude.{◌≡◌}
use Rattle.golog_tree.specs.declared.agent.Agent.{Agent}
use Rattle.golog_semantics.specs.declared.journal.Report.{Report}
use Rattle.golog_semantics.specs.Restart.{journal_text}
use Rattle.golog_semantics.specs.Text.{Text}
use Rattle.golog_semantics.specs.Reports.{IsReport, SpellsReport}
use Rattle.golog_semantics.specs.ReportLaws.{TellsApart}
use Rattle.golog_semantics.specs.SortLaws.{ResultsFit}

-- reports with the same text are the same
abbrev pub TextTellsReports : Type 0
TextTellsReports =
    (agent : Agent) → TellsApart agent → (one other : Report) → IsReport agent one → IsReport agent other
    → journal_text agent one ≡ journal_text agent other → one ≡ other

-- bytes spell one report at most
abbrev pub OneReportIsSpelled : Type 0
OneReportIsSpelled =
    (agent : Agent) → TellsApart agent → (bytes : Text) (one other : Report)
    → SpellsReport agent bytes one → SpellsReport agent bytes other → one ≡ other

-- the results of a report that has a text are values of their fluents
abbrev pub ResultsOfReportsFit : Type 0
ResultsOfReportsFit = (agent : Agent) (report : Report) → IsReport agent report
    → ResultsFit agent report.entries
