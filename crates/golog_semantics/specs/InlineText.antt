-- The report of devices that follow scripts, and its text.
use Rattle.std.specs.Prelude.{ℕ, Option, Some, None, List, [], ◌∷◌, length, map}
use Rattle.std.specs.List.{flat_map}
use Rattle.golog_tree.specs.declared.agent.Agent.{Agent}
use Rattle.golog_tree.specs.declared.prog.Label.{Label}
use Rattle.golog_semantics.specs.declared.journal.Entry.{Entry}
use Rattle.golog_semantics.specs.declared.journal.PlacedRun.{PlacedRun}
use Rattle.golog_semantics.specs.declared.journal.Report.{Report}
use Rattle.golog_semantics.specs.Journal.{Journal}
use Rattle.golog_semantics.specs.Progress.{values_after, left_after}
use Rattle.golog_semantics.specs.Text.{Text, at_each, report_text}
use Rattle.golog_semantics.specs.Online.{run_begun}
use Rattle.golog_semantics.specs.Inline.{Scripted, inline_journal}
use Rattle.golog_semantics.specs.Dealt.{Script}

-- a run at its place, where there is one
abbrev pub placed_run : ℕ → Option (List Label) → List PlacedRun
placed_run place None = []
placed_run place (Some labels) = record { place = place; labels = labels } ∷ []

-- a device that has taken no command yet
abbrev pub new_scripted : Script → Scripted
new_scripted script = record { answers = script.answers; idle = script.idle; taken = 0 }

module _ (agent : Agent) where
  -- the run that begins with the entry after these
  abbrev pub run_after : Journal → Entry → List PlacedRun
  run_after before e =
      placed_run (length before) (run_begun agent before (values_after agent before) (left_after agent before) e)

  -- the runs that the steps of a journal begin
  abbrev pub begun_runs : Journal → List PlacedRun
  begun_runs journal = flat_map (λ runs. runs) (at_each run_after [] journal)

  -- a journal with the runs that its steps begin
  abbrev pub report_of : Journal → Report
  report_of journal = record { entries = journal; runs = begun_runs journal; start = None }

  -- the report of a run inline with these scripts, one for each device
  abbrev pub inline_report : List Script → Report
  inline_report scripts = report_of (inline_journal agent (map new_scripted scripts))

  -- its text
  abbrev pub inline_text : List Script → Text
  inline_text scripts = report_text agent (inline_report scripts)
