-- Laws of the test of equal programs, and of the faults of a journal that grows.
use Rattle.std.specs.Prelude.{None, ◌≡◌, IsTrue, List, [], ◌∷◌, ◌++◌, Option}
use Rattle.std.specs.Option.{option_or}
use Rattle.golog_tree.specs.declared.agent.Agent.{Agent}
use Rattle.golog_tree.specs.declared.prog.Prog.{Prog}
use Rattle.golog_semantics.specs.declared.journal.Entry.{Entry}
use Rattle.golog_semantics.specs.declared.journal.PlacedRun.{PlacedRun}
use Rattle.golog_semantics.specs.Same.{same_prog}
use Rattle.golog_semantics.specs.Journal.{Journal}
use Rattle.golog_semantics.specs.Text.{Text}
use Rattle.golog_semantics.specs.Online.{first_fault, fault_at}

-- the test of equal programs by their codes holds of equal programs, and of no others
pub record TestIsEquality : Type 0 where
  pub sound : (p q : Prog) → IsTrue (same_prog p q) → p ≡ q
  pub complete : (p : Prog) → IsTrue (same_prog p p)

-- with one more entry a journal has the faults that it had, or else that of the entry
abbrev pub FaultsGrow : Type 0
FaultsGrow =
    (agent : Agent) (lines : Option (List Text)) (runs : List PlacedRun) (journal : Journal) (e : Entry)
    → first_fault agent lines (record { entries = journal ++ e ∷ []; runs = runs; start = None })
    ≡ option_or (first_fault agent lines (record { entries = journal; runs = runs; start = None }))
    (fault_at agent lines runs journal e)
