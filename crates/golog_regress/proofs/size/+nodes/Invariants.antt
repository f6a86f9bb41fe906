use Rattle.std.proofs.Common.{◌≡◌, ◌+◌, ◌-◌, ◌^◌, map, take}
use Rattle.std.specs.Prelude.{min, sum}
use Rattle.golog_regress.specs.Size.{nodes}
use Rattle.golog_regress.proofs.size.+nodes.Given as goal

abbrev pub invariant-nodes_of_all-loop-cond : goal.invariant-nodes_of_all-loop-cond
invariant-nodes_of_all-loop-cond l = l.count ≡ min (1 + sum (map nodes (take l.cond-index l.conds))) (2 ^ 64 - 1)
