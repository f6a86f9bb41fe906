-- Journals that start from other values than the agent's own. (This project's own.)
use Rattle.std.specs.Prelude.{Option, Some, [], ◌++◌, slice_set, unwrap_or}
use Rattle.std.specs.Option.{option_map_or}
use Rattle.golog_tree.specs.declared.agent.Agent.{Agent}
use Rattle.golog_semantics.specs.declared.journal.Report.{Report}
use Rattle.golog_semantics.specs.Truth.{Values}
use Rattle.golog_semantics.specs.Progress.{values_after}
use Rattle.golog_semantics.specs.Text.{Text, head_text, report_text}

-- the agent with these start values
abbrev pub restarted : Agent → Values → Agent
restarted agent values = record agent { starts = values }

-- the agent that a journal with this start is of
abbrev pub started : Agent → Option Values → Agent
started agent start = option_map_or (restarted agent) start agent

-- the text of a report: its head, where it has a start, and the lines of its entries
abbrev pub journal_text : Agent → Report → Text
journal_text agent report =
    option_map_or (head_text agent) report.start [] ++ report_text (started agent report.start) report

-- The values that a journal leaves to the next run: those after its entries, with no interrupts running, which
-- the ground fluent 0 tells.
abbrev pub values_left : Agent → Report → Values
values_left agent report = slice_set (values_after (started agent report.start) report.entries) 0 0

-- the report with the start written out
abbrev pub migrated : Agent → Report → Report
migrated agent report = record report { start = Some (unwrap_or report.start agent.starts) }
