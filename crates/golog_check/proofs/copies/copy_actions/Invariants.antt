use Rattle.std.proofs.Common.{◌≡◌, map, take}
use Rattle.golog_check.specs.DeclaredItems.{action_item}
use Rattle.golog_check.proofs.copies.copy_actions.Given as goal

abbrev pub invariant-loop-action : goal.invariant-loop-action
invariant-loop-action l = l.items ≡ map action_item (take l.action-index l.actions)
