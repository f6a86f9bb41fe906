-- Laws of faults: where no rule is broken, the rules are kept.
use Rattle.std.specs.Prelude.{◌≡◌, IsTrue, Option, None, List, ◌∷◌, ◌++◌}
use Rattle.golog_tree.specs.declared.agent.Agent.{Agent}
use Rattle.golog_semantics.specs.declared.journal.Entry.{Entry}
use Rattle.golog_semantics.specs.declared.journal.PlacedRun.{PlacedRun}
use Rattle.golog_semantics.specs.declared.journal.Report.{Report}
use Rattle.golog_semantics.specs.Journal.{Journal}
use Rattle.golog_semantics.specs.Text.{Text}
use Rattle.golog_semantics.specs.Online.{Keeps, keeps_text, fault_at, first_fault, fault_of, IsOnline, IsOnlineSoFar}

module _ (agent : Agent) (lines : Option (List Text)) where
  -- an entry has no fault exactly where it keeps the rules, and its line is its text
  pub record FaultsTell (runs : List PlacedRun) (before : Journal) (e : Entry) : Type 0 where
    pub kept : fault_at agent lines runs before e ≡ None → Keeps agent before runs e
    pub spelled : fault_at agent lines runs before e ≡ None → IsTrue (keeps_text agent before runs lines e)
    pub none : Keeps agent before runs e → IsTrue (keeps_text agent before runs lines e)
        → fault_at agent lines runs before e ≡ None

  -- each line is the text of its entry, where lines are given
  abbrev pub AreItsLines : Report → Type 0
  AreItsLines report =
      (before : Journal) (e : Entry) (later : Journal) → report.entries ≡ before ++ e ∷ later
      → IsTrue (keeps_text agent before report.runs lines e)

  -- a report has no fault exactly where it is online, and the lines are its text
  pub record ReportFaultsTell (report : Report) : Type 0 where
    pub online_so_far : first_fault agent lines report ≡ None → IsOnlineSoFar agent report
    pub lines_so_far : first_fault agent lines report ≡ None → AreItsLines report
    pub none_so_far : IsOnlineSoFar agent report → AreItsLines report
        → first_fault agent lines report ≡ None
    pub online : fault_of agent lines report ≡ None → IsOnline agent report
    pub its_lines : fault_of agent lines report ≡ None → AreItsLines report
    pub none : IsOnline agent report → AreItsLines report → fault_of agent lines report ≡ None

-- an entry, and a report, read from lines or not
pub record NoFaultIsOnline : Type 0 where
  pub at_entry : (agent : Agent) (lines : Option (List Text)) (runs : List PlacedRun)
      → (before : Journal) (e : Entry) → FaultsTell agent lines runs before e
  pub of_report : (agent : Agent) (lines : Option (List Text)) (report : Report)
      → ReportFaultsTell agent lines report
