-- Programs under way.
use Rattle.golog_tree.specs.declared.agent.Agent.{Agent}
use Rattle.golog_semantics.specs.Journal.{Journal}

-- a program under way: its agent, and the entries so far
pub record Course : Type 0 where
  pub agent : Agent
  pub list : Journal
