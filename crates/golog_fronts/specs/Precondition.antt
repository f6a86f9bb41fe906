-- The truth of the precondition of an action.
use Rattle.std.specs.Prelude.{ℕ, ◌==◌, if◌then◌else◌, List, [], ◌∷◌}
use Rattle.golog_tree.specs.declared.agent.Agent.{Agent}
use Rattle.golog_tree.specs.declared.agent.PossItem.{PossItem}
use Rattle.golog_tree.specs.declared.cond.Truth.{Truth}
use Rattle.golog_tree.specs.declared.cond.Truth.TheVariants.{Yes}
use Rattle.golog_semantics.specs.Truth.{Values, env_of, truth_of}

-- the truth of the precondition that these items give an action; without an item it is true
abbrev pub precondition_by : Agent → Values → ℕ → List ℕ → List PossItem → Truth
precondition_by agent values action args [] = Yes
precondition_by agent values action args (item ∷ items) =
    if item.action == action then truth_of agent values item.cond (env_of args)
    else precondition_by agent values action args items

-- the truth of the precondition of a ground action
abbrev pub precondition : Agent → Values → ℕ → List ℕ → Truth
precondition agent values action args = precondition_by agent values action args agent.poss
