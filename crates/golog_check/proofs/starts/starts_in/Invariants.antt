use Rattle.std.proofs.Common.{map, take}
use Rattle.golog_check.specs.Checked.{IsChecked}
use Rattle.golog_check.specs.Starts.{start_in}
use Rattle.golog_check.proofs.starts.starts_in.Given as goal

abbrev pub invariant-loop-item : goal.invariant-loop-item
invariant-loop-item l = IsChecked l.checked (map (start_in l.names) (take l.item-index l.items))
