-- Laws of complete worlds: in one, what actions make of the fluents is known too.
use Rattle.std.specs.Prelude.{ℕ}
use Rattle.golog_tree.specs.declared.agent.Agent.{Agent}
use Rattle.golog_semantics.specs.Truth.{Values}
use Rattle.golog_semantics.specs.Values.{after_do}
use Rattle.golog_semantics.specs.World.{IsComplete, world_after}
use Rattle.golog_semantics.specs.Journal.{Journal}
use Rattle.golog_semantics.specs.WellFormed.{WellFormed}

-- the world is complete after each action, and after the entries of each journal
pub record StaysComplete (agent : Agent) (world : Values) : Type 0 where
  pub actions : (action : ℕ) → IsComplete agent (after_do agent world action)
  pub journals : (journal : Journal) → IsComplete agent (world_after agent world journal)

-- a complete world of a well-formed agent stays complete
abbrev pub WorldsStayComplete : Type 0
WorldsStayComplete =
    (agent : Agent) → WellFormed agent → (world : Values) → IsComplete agent world
    → StaysComplete agent world
