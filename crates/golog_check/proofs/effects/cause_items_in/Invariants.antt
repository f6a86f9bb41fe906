use Rattle.std.proofs.Common.{map, take}
use Rattle.golog_check.specs.Checked.{IsChecked}
use Rattle.golog_check.specs.Effects.{cause_in}
use Rattle.golog_check.proofs.effects.cause_items_in.Given as goal

abbrev pub invariant-loop-item : goal.invariant-loop-item
invariant-loop-item l = IsChecked l.checked (map (cause_in l.names) (take l.item-index l.items))
