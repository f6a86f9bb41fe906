-- What is kept of the entries so far, and what comes with one more.
use Rattle.std.specs.Prelude.{◌≡◌, false, Option, Some, None, List, [], ◌∷◌, ◌++◌, Contains}
use Rattle.golog_tree.specs.declared.agent.Agent.{Agent}
use Rattle.golog_tree.specs.declared.prog.Label.{Label}
use Rattle.golog_semantics.specs.declared.journal.Entry.{Entry}
use Rattle.golog_semantics.specs.declared.journal.Entry.TheVariants.{End}
use Rattle.golog_semantics.specs.declared.journal.Answer.{Answer}
use Rattle.golog_semantics.specs.Journal.{Journal, has_end}
use Rattle.golog_semantics.specs.Progress.{values_after, left_after}
use Rattle.golog_semantics.specs.Online.{run_begun, fault_at}
use Rattle.golog_semantics.specs.InlineText.{begun_runs}

-- the answer of the end, where the program has ended
abbrev pub EndsBy : Journal → Option Answer → Type 0
EndsBy journal None = has_end journal ≡ false
EndsBy journal (Some answer) = Contains journal (End answer)

-- the answer of the end, after one more entry
abbrev pub ended_by : Option Answer → Entry → Option Answer
ended_by ended (End answer) = Some answer
ended_by ended _ = ended

module _ (agent : Agent) (journal : Journal) where
  -- the run that begins with the entry after these
  abbrev pub begun_by : Entry → Option (List Label)
  begun_by e = run_begun agent journal (values_after agent journal) (left_after agent journal) e

  -- the entry keeps the rules after these
  abbrev pub KeepsRules : Entry → Type 0
  KeepsRules e = fault_at agent None (begun_runs agent (journal ++ e ∷ [])) journal e ≡ None
