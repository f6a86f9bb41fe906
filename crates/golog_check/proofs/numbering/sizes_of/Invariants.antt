use Rattle.std.proofs.Common.{◌≡◌, map, take}
use Rattle.golog_tree.specs.Ground.{item_size}
use Rattle.golog_check.proofs.numbering.sizes_of.Given as goal

abbrev pub invariant-loop-sort : goal.invariant-loop-sort
invariant-loop-sort l = l.sizes ≡ map item_size (take l.sort-index l.sorts)
