-- What a board needs of its agent, which every well-formed agent has.
use Rattle.std.specs.Prelude.{◌≤◌, IsTrue, length}
use Rattle.std.specs.List.{list_all}
use Rattle.golog_tree.specs.declared.agent.Agent.{Agent}
use Rattle.golog_tree.specs.Ground.{IsCountable}
use Rattle.golog_semantics.specs.Journal.{device_limit}
use Rattle.golog_semantics.specs.WellFormed.{action_item_fits, sense_fits}

-- ground things can be numbered, there are few devices, and the items of actions and of sensing fit
pub record ServesDevices (agent : Agent) : Type 0 where
  pub countable : IsCountable agent
  pub few : length agent.devices ≤ device_limit
  pub actions : IsTrue (list_all (action_item_fits agent) agent.actions)
  pub senses : IsTrue (list_all (sense_fits agent) agent.senses)
