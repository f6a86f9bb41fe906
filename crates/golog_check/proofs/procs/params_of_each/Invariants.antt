use Rattle.std.proofs.Common.{◌≡◌, map, take}
use Rattle.golog_check.specs.DeclaredItems.{param_sorts}
use Rattle.golog_check.proofs.procs.params_of_each.Given as goal

abbrev pub invariant-loop-item : goal.invariant-loop-item
invariant-loop-item l = l.params ≡ map param_sorts (take l.item-index l.items)
