-- The ground thing of a number.
use Rattle.std.specs.Prelude.{◌≡◌, ℕ, ◌-◌, ◌<◌, List, length, take, drop, replicate, slice_get, Some}
use Rattle.golog_tree.specs.declared.agent.Agent.{Agent}
use Rattle.golog_tree.specs.declared.ground.Ground.{Ground}
use Rattle.golog_tree.specs.Ground.{sizes, args_at, all_from, number_of, AreWithin}

-- the arguments that count
abbrev pub args : Ground → List ℕ
args ground = take ground.count ground.args

-- The item and the arguments that the number names, and zeros behind them; they have this number. The
-- items are given by the sorts of their arguments.
pub record IsGround (agent : Agent) (items : List (List ℕ)) (number : ℕ) (ground : Ground) : Type 0 where
  pub named : slice_get (all_from agent 0 items) number ≡ Some (ground.item, args ground)
  pub declared : ground.item < length items
  pub count : ground.count ≡ length (args_at items ground.item)
  pub fits : AreWithin (sizes agent (args_at items ground.item)) (args ground)
  pub numbered : number_of agent items ground.item (args ground) ≡ number
  pub padded : drop ground.count ground.args ≡ replicate (3 - ground.count) 0
