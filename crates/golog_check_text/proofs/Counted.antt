-- How many ground things an agent has.
use Rattle.std.proofs.Common.{◌≡◌, length, sym}
use Rattle.golog_tree.specs.declared.agent.Agent.{Agent}
use Rattle.golog_tree.specs.Ground.{ground_actions, ground_fluents, ground_count, action_args}
use Rattle.golog_tree.proofs.Numbers.{length-all_from}
use Rattle.golog_semantics.specs.WellFormed.{WellFormed}

-- those of a well-formed agent
pub record Counts (agent : Agent) : Type 0 where
  pub fluents : length agent.starts ≡ length (ground_fluents agent)
  pub actions : ground_count agent (action_args agent) ≡ length (ground_actions agent)

pub counted : (agent : Agent) → WellFormed agent → Counts agent
counted agent formed = record {
  fluents = formed.starts.whole;
  actions = sym (length-all_from agent (action_args agent) 0);
}
