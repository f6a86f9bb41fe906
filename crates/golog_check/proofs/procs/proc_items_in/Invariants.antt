use Rattle.std.proofs.Common.{map, take}
use Rattle.golog_check.specs.Checked.{IsChecked}
use Rattle.golog_check.specs.Procs.{proc_in}
use Rattle.golog_check.proofs.procs.proc_items_in.Given as goal

abbrev pub invariant-loop-item : goal.invariant-loop-item
invariant-loop-item l = IsChecked l.checked (map (proc_in l.names) (take l.item-index l.items))
