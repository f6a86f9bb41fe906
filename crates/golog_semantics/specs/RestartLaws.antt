-- Laws of agents that start from other values.
use Rattle.golog_tree.specs.declared.agent.Agent.{Agent}
use Rattle.golog_semantics.specs.Truth.{Values}
use Rattle.golog_semantics.specs.InSorts.{AreInSorts}
use Rattle.golog_semantics.specs.Restart.{restarted}
use Rattle.golog_semantics.specs.WellFormed.{WellFormed}

-- a well-formed agent may start from any values in their sorts
abbrev pub RestartedIsWellFormed : Type 0
RestartedIsWellFormed =
    (agent : Agent) (values : Values) → WellFormed agent → AreInSorts agent values
    → WellFormed (restarted agent values)
