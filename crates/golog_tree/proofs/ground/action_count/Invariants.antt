use Rattle.std.proofs.Common.{◌≡◌, take}
use Rattle.golog_tree.specs.Ground.{ground_count, action_args}
use Rattle.golog_tree.proofs.ground.action_count.Given as goal

abbrev pub invariant-loop-item : goal.invariant-loop-item
invariant-loop-item l = l.count ≡ ground_count l.agent (take l.item-index (action_args l.agent))
