use Rattle.std.proofs.Common.{◌≡◌, take}
use Rattle.golog_tree.specs.Ground.{fluent_args, ground_count}
use Rattle.golog_check.proofs.start_values.ground_count.Given as goal

abbrev pub invariant-loop-item : goal.invariant-loop-item
invariant-loop-item l = l.count ≡ ground_count l.agent (take l.item-index (fluent_args l.agent))
