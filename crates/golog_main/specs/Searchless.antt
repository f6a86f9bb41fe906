-- How a run ends of an agent without search blocks, and where one ends for want of fuel.
use Rattle.std.specs.Prelude.{◌≡◌, ℕ, IsTrue, not, Option, ◌∷◌, ◌++◌}
use Rattle.golog_tree.specs.declared.agent.Agent.{Agent}
use Rattle.golog_semantics.specs.declared.journal.Entry.TheVariants.{End}
use Rattle.golog_semantics.specs.declared.journal.Answer.TheVariants.{Fuel}
use Rattle.golog_semantics.specs.BlockFree.{has_block}
use Rattle.golog_semantics.specs.Heavy.{heavy}
use Rattle.golog_semantics.specs.Journal.{Journal}
use Rattle.golog_semantics.specs.Progress.{values_after, left_after}
use Rattle.golog_semantics.specs.Restart.{started}
use Rattle.golog_semantics.specs.Text.{Text}
use Rattle.golog_semantics.specs.Truth.{Values}
use Rattle.golog_semantics.specs.Execution.{IsOnlineRun}

-- it ends neither for the depth of a search nor for its fuel
abbrev pub SearchlessEnds : Type 0
SearchlessEnds =
    (agent : Agent) (start : Option Values) (text : Text) (status : ℕ) → IsTrue (not (has_block agent agent.main))
    → IsOnlineRun agent start text status → (¬ (status ≡ 12)) × (¬ (status ≡ 13))

-- the program is heavy after the entries before the end
pub record IsHeavyAtEnd (agent : Agent) (journal : Journal) : Type 0 where
  pub before : Journal
  pub later : Journal
  pub is : journal ≡ before ++ End Fuel ∷ later
  pub weighs : IsTrue (heavy agent (values_after agent before) (left_after agent before))

-- so it is where the end is for want of fuel
abbrev pub FuelIsHeavy : Type 0
FuelIsHeavy =
    (agent : Agent) (start : Option Values) (text : Text) (run : IsOnlineRun agent start text 13)
    → IsHeavyAtEnd (started agent start) run.report.entries
