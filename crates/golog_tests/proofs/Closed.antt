-- The program of a well-formed agent has no free variable.
use Rattle.std.proofs.Common.{false, IsTrue}
use Rattle.golog_tree.specs.declared.agent.Agent.{Agent}
use Rattle.golog_semantics.specs.ProgFits.{fits}
use Rattle.golog_semantics.specs.WellFormed.{WellFormed}
use Rattle.golog_fronts.specs.Closed.{IsClosed}

pub main_closed : (agent : Agent) → WellFormed agent → IsClosed agent agent.main
main_closed agent formed = record { in_block = false; fits = formed.programs.main }

-- it fits the agent
pub main_fits : (agent : Agent) → WellFormed agent → IsTrue (fits agent agent.main)
main_fits agent formed = formed.programs.main
