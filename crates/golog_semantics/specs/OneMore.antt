-- Laws of a journal with one more entry: each of its facts from those of the entries before.
use Rattle.std.specs.Prelude.{◌≡◌, ℕ, ◌+◌, ◌≤◌, ◌<◌, false, not, IsTrue, ◌&&◌, ◌||◌, if◌then◌else◌, Some, None, List, [], ◌∷◌, ◌++◌, length, filter}
use Rattle.std.specs.Option.{option_map_or, option_to_list}
use Rattle.std.specs.Prelude.{All}
use Rattle.golog_tree.specs.declared.agent.Agent.{Agent}
use Rattle.golog_tree.specs.declared.prog.Label.{Label}
use Rattle.golog_semantics.specs.declared.journal.Entry.{Entry}
use Rattle.golog_semantics.specs.declared.journal.PlacedRun.{PlacedRun}
use Rattle.golog_semantics.specs.declared.journal.Report.{Report}
use Rattle.golog_semantics.specs.Journal.{Journal, Command, command_at, commands, is_posted_by, entries_by, is_open, is_close, has_end, is_end, is_counted, count, is_full, last_of, is_result_of, is_outstanding, outstanding_commands, is_rest_after, is_at_rest, is_settled, is_quiet}
use Rattle.golog_semantics.specs.Progress.{after_entry, values_after, left_at, left_after}
use Rattle.golog_semantics.specs.Answer.{is_unanswered}
use Rattle.golog_semantics.specs.Text.{run_at, line_text, with_line_feed, report_text}
use Rattle.golog_semantics.specs.Online.{fault_at, first_fault, is_whole, IsOnline, IsOnlineSoFar}

-- the entries of a report, with these runs, from the agent's own start
abbrev pub with_runs : List PlacedRun → Journal → Report
with_runs runs journal = record { entries = journal; runs = runs; start = None }

module _ (journal : Journal) (e : Entry) where
  -- the journal with the entry at its end
  abbrev pub and_then : Journal
  and_then = journal ++ e ∷ []

  -- its end, its counted entries and its last entry
  pub record EntriesGrow : Type 0 where
    pub end : has_end and_then ≡ (has_end journal || is_end e)
    pub counted : count and_then ≡ count journal + (if is_counted e then 1 else 0)
    pub full : IsTrue (is_full journal) → IsTrue (is_full and_then)
    pub last : last_of and_then ≡ Some e

  -- what a device has posted, and whether it is open
  pub record PostsGrow (device : ℕ) : Type 0 where
    pub all :
        entries_by device and_then ≡ entries_by device journal ++ (if is_posted_by device e then e ∷ [] else [])
    pub open_still :
        is_open device and_then ≡ (is_open device journal && not (is_posted_by device e && is_close e))

module _ (agent : Agent) (journal : Journal) (e : Entry) where
  -- the values and the program left
  pub record ProgressGrows : Type 0 where
    pub values :
        values_after agent (and_then journal e) ≡ after_entry agent (values_after agent journal) e
    pub left :
        left_after agent (and_then journal e)
        ≡ left_at agent (values_after agent journal) (left_after agent journal) e

  -- the command that the entry is for a device, if it is one
  abbrev pub new_command : ℕ → List Command
  new_command device = option_to_list (command_at agent device (length journal, e))

  -- the commands of a device, those without a result, and whether it is at rest
  pub record CommandsGrow (device : ℕ) : Type 0 where
    pub all :
        commands agent device (and_then journal e) ≡ commands agent device journal ++ new_command device
    pub each : (c : Command)
        → is_outstanding agent (and_then journal e) c
        ≡ (is_outstanding agent journal c && not (is_result_of c.place e))
    pub waiting : outstanding_commands agent device (and_then journal e)
        ≡ filter (λ c. not (is_result_of c.place e)) (outstanding_commands agent device journal)
        ++ filter (is_outstanding agent (and_then journal e)) (new_command device)
    pub rest : is_at_rest agent (and_then journal e) device
        ≡ (let taken = length (commands agent device (and_then journal e)) in
        if is_posted_by device e then is_rest_after taken e
        else option_map_or (is_rest_after taken) (last_of (entries_by device journal)) false)

  -- the faults, whether it is online so far, and the text
  pub record ReportGrows (runs : List PlacedRun) : Type 0 where
    pub online : IsOnlineSoFar agent (with_runs runs journal) → fault_at agent None runs journal e ≡ None
        → IsOnlineSoFar agent (with_runs runs (and_then journal e))
    pub was_online : IsOnlineSoFar agent (with_runs runs (and_then journal e))
        → IsOnlineSoFar agent (with_runs runs journal)
    pub keeps_rules : IsOnlineSoFar agent (with_runs runs (and_then journal e))
        → fault_at agent None runs journal e ≡ None
    pub text : report_text agent (with_runs runs (and_then journal e))
        ≡ report_text agent (with_runs runs journal) ++ with_line_feed agent (line_text agent runs journal e)

abbrev pub OneMoreEntry : Type 0
OneMoreEntry = (journal : Journal) (e : Entry) → EntriesGrow journal e

abbrev pub OneMorePosted : Type 0
OneMorePosted = (journal : Journal) (e : Entry) (device : ℕ) → PostsGrow journal e device

abbrev pub OneMoreStep : Type 0
OneMoreStep = (agent : Agent) (journal : Journal) (e : Entry) → ProgressGrows agent journal e

abbrev pub OneMoreCommand : Type 0
OneMoreCommand = (agent : Agent) (journal : Journal) (e : Entry) (device : ℕ)
    → CommandsGrow agent journal e device

abbrev pub OneMoreLine : Type 0
OneMoreLine = (agent : Agent) (journal : Journal) (e : Entry) (runs : List PlacedRun)
    → ReportGrows agent journal e runs

-- a program without devices waits for none of them
pub record WaitsForNothing (agent : Agent) (journal : Journal) : Type 0 where
  pub settled : IsTrue (is_settled agent journal)
  pub quiet : IsTrue (is_quiet agent journal)
  pub answered : is_unanswered agent journal ≡ false

abbrev pub NothingWithoutDevices : Type 0
NothingWithoutDevices = (agent : Agent) → length agent.devices ≡ 0 → (journal : Journal)
    → WaitsForNothing agent journal

-- runs from this place on
abbrev pub BeginFrom : ℕ → List PlacedRun → Type 0
BeginFrom place runs = All (λ r. place ≤ r.place) runs

-- runs that begin past the entries change nothing
pub record LaterRuns (agent : Agent) (journal : Journal) (runs later : List PlacedRun) : Type 0 where
  pub same_text : report_text agent (with_runs (runs ++ later) journal)
      ≡ report_text agent (with_runs runs journal)
  pub same_fault : first_fault agent None (with_runs (runs ++ later) journal)
      ≡ first_fault agent None (with_runs runs journal)

abbrev pub LaterRunsChangeNothing : Type 0
LaterRunsChangeNothing =
    (agent : Agent) (journal : Journal) (runs later : List PlacedRun)
    → BeginFrom (length journal) later → LaterRuns agent journal runs later

-- all these runs begin before this place
abbrev pub BeginBefore : ℕ → List PlacedRun → Type 0
BeginBefore place runs = All (λ r. r.place < place) runs

-- no run stands at a place that all of them come before, and a run that is put in there is found
pub record RunsFound (runs : List PlacedRun) (place : ℕ) : Type 0 where
  pub none : run_at runs place ≡ None
  pub new : (labels : List Label)
      → run_at (runs ++ record { place = place; labels = labels } ∷ []) place ≡ Some labels

abbrev pub NewRunsAreFound : Type 0
NewRunsAreFound = (runs : List PlacedRun) (place : ℕ) → BeginBefore place runs → RunsFound runs place

-- an online execution is one so far in which the program has ended and each device is closed
pub record WholeIsOnline (agent : Agent) (report : Report) : Type 0 where
  pub whole : IsOnlineSoFar agent report → IsTrue (is_whole agent report.entries) → IsOnline agent report
  pub so_far : IsOnline agent report → IsOnlineSoFar agent report
  pub ended : IsOnline agent report → IsTrue (is_whole agent report.entries)

abbrev pub OnlineIsWhole : Type 0
OnlineIsWhole = (agent : Agent) (report : Report) → WholeIsOnline agent report
