-- The trace of a journal: each line with the values that its entry changed, and then what is said of the program left.
use Rattle.std.specs.Prelude.{◌≡◌, ℕ, suc, Option, Some, None, List, [], ◌∷◌, ◌++◌, codes}
use Rattle.golog_tree.specs.declared.agent.Agent.{Agent}
use Rattle.golog_tree.specs.declared.prog.Prog.{Prog}
use Rattle.golog_semantics.specs.declared.journal.Entry.{Entry}
use Rattle.golog_semantics.specs.declared.journal.PlacedRun.{PlacedRun}
use Rattle.golog_semantics.specs.declared.journal.Report.{Report}
use Rattle.golog_semantics.specs.Journal.{Journal}
use Rattle.golog_semantics.specs.Progress.{after_entry, values_after}
use Rattle.golog_semantics.specs.Text.{Text, run_at}
use Rattle.golog_semantics.specs.Truth.{Values}
use Rattle.golog_text.specs.Filled.{full_line}
use Rattle.golog_trace.specs.Changes.{change_lines}
use Rattle.golog_trace.specs.Followed.{followed}
use Rattle.golog_trace.specs.Ways.{TellsLeft}

module _ (agent : Agent) where
  -- the line of an entry at this place, and the values that it changed, given those before it
  abbrev pub entry_text : List PlacedRun → ℕ → Values → Entry → Text
  entry_text runs place values entry =
      full_line agent place values (run_at runs place) entry
      ++ change_lines agent values entry (after_entry agent values entry)

  -- the same of entries that stand from this place on
  abbrev pub entries_text : List PlacedRun → ℕ → Values → Journal → Text
  entries_text runs place values [] = []
  entries_text runs place values (entry ∷ entries) =
      entry_text runs place values entry ++ entries_text runs (suc place) (after_entry agent values entry) entries

  -- what is said of the program left behind the entries, or that the entries are no run of the program
  abbrev pub TellsEnd : Values → Option Prog → Text → Type 0
  TellsEnd values None text = text ≡ codes "left unknown: an entry is no step of the program" ++ 10 ∷ []
  TellsEnd values (Some left) text = TellsLeft agent values left text

  -- the trace of a report
  pub record IsTrace (report : Report) (text : Text) : Type 0 where
    pub end : Text
    pub is_end : TellsEnd (values_after agent report.entries) (followed agent agent.starts agent.main report.entries) end
    pub text_is : text ≡ entries_text report.runs 0 agent.starts report.entries ++ end
