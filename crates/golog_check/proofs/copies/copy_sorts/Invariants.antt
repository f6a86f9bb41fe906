use Rattle.std.proofs.Common.{◌≡◌, map, take}
use Rattle.golog_check.specs.DeclaredItems.{sort_item}
use Rattle.golog_check.proofs.copies.copy_sorts.Given as goal

abbrev pub invariant-loop-sort : goal.invariant-loop-sort
invariant-loop-sort l = l.items ≡ map sort_item (take l.sort-index l.sorts)
