-- Laws of numbers: a ground thing has one number.
use Rattle.std.specs.Prelude.{◌≡◌, ℕ, ◌<◌, Some, List, length, slice_get}
use Rattle.golog_tree.specs.declared.agent.Agent.{Agent}
use Rattle.golog_tree.specs.Ground.{AreWithin, sizes, args_at, action_args, fluent_args, ground_actions, ground_fluents, action_no, fluent_no}

-- what stands at a number has that number, and what has arguments of its sorts stands at its number
pub record HasOneNumber (agent : Agent) : Type 0 where
  pub actions : (number item : ℕ) (args : List ℕ)
      → slice_get (ground_actions agent) number ≡ Some (item, args) → action_no agent item args ≡ number
  pub fluents : (number item : ℕ) (args : List ℕ)
      → slice_get (ground_fluents agent) number ≡ Some (item, args) → fluent_no agent item args ≡ number
  pub actions_stand : (item : ℕ) (args : List ℕ) → item < length (action_args agent)
      → AreWithin (sizes agent (args_at (action_args agent) item)) args
      → slice_get (ground_actions agent) (action_no agent item args) ≡ Some (item, args)
  pub fluents_stand : (item : ℕ) (args : List ℕ) → item < length (fluent_args agent)
      → AreWithin (sizes agent (args_at (fluent_args agent) item)) args
      → slice_get (ground_fluents agent) (fluent_no agent item args) ≡ Some (item, args)

abbrev pub GroundThingsHaveOneNumber : Type 0
GroundThingsHaveOneNumber = (agent : Agent) → HasOneNumber agent
