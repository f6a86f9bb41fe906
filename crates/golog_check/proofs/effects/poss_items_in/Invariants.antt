use Rattle.std.proofs.Common.{map, take}
use Rattle.golog_check.specs.Checked.{IsChecked}
use Rattle.golog_check.specs.Effects.{poss_in}
use Rattle.golog_check.proofs.effects.poss_items_in.Given as goal

abbrev pub invariant-loop-item : goal.invariant-loop-item
invariant-loop-item l = IsChecked l.checked (map (poss_in l.names) (take l.item-index l.items))
