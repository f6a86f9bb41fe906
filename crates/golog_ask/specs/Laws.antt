-- Laws of journals that are asked about.
use Rattle.golog_tree.specs.declared.agent.Agent.{Agent}
use Rattle.golog_semantics.specs.declared.journal.Report.{Report}
use Rattle.golog_semantics.specs.Reports.{IsReport}
use Rattle.golog_progress.specs.Entries.{EntriesFit}

-- the entries of a report that has a text speak of the agent's things
abbrev pub EntriesOfReportsFit : Type 0
EntriesOfReportsFit = (agent : Agent) (report : Report) → IsReport agent report
    → EntriesFit agent report.entries
