use Rattle.std.proofs.Common.{◌≡◌, map, take}
use Rattle.golog_check.specs.DeclaredItems.{fluent_item}
use Rattle.golog_check.proofs.copies.copy_fluents.Given as goal

abbrev pub invariant-loop-fluent : goal.invariant-loop-fluent
invariant-loop-fluent l = l.items ≡ map fluent_item (take l.fluent-index l.fluents)
