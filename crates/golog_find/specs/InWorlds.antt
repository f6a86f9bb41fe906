-- What the search of a block tells of each world in which all is so that is known. (This project's own.)
use Rattle.std.specs.Prelude.{◌≡◌, ℕ, suc, Bool, true, false, length}
use Rattle.golog_tree.specs.declared.agent.Agent.{Agent}
use Rattle.golog_tree.specs.declared.prog.Prog.{Prog}
use Rattle.golog_semantics.specs.Truth.{Values}
use Rattle.golog_semantics.specs.Search.{Run}
use Rattle.golog_semantics.specs.Trans.{LeadsIn}
use Rattle.golog_semantics.specs.World.{Refines}
use Rattle.golog_find.specs.declared.found.Found.{Found}
use Rattle.golog_find.specs.declared.found.Found.TheVariants.{Absent, Run as Runs}

module _ (agent : Agent) (values : Values) (p : Prog) where
  -- as many steps as a run has that is found for certain lead to an end in each such world
  abbrev pub RunIsCertain : Bool → Found → Type 0
  RunIsCertain certain found =
      certain ≡ true → (run : Run) → found ≡ Runs run → (world : Values) → Refines values world
      → LeadsIn agent (length run) p world

  -- where not even an uncertain run is found, and nothing stayed unseen, no number of steps but none leads to an
  -- end in any such world
  abbrev pub AbsenceIsCertain : Bool → Found → Type 0
  AbsenceIsCertain certain found =
      certain ≡ false → found ≡ Absent false → (world : Values) → Refines values world → (n : ℕ)
      → ¬ LeadsIn agent (suc n) p world
