use Rattle.std.proofs.Common.{◌≡◌, drop}
use Rattle.golog_prog.specs.Items.{items_read}
use Rattle.golog_prog.proofs.items.read_each.Given as goal

abbrev pub invariant-loop-item : goal.invariant-loop-item
invariant-loop-item l =
    (items_read l.theory l.procs l.so_far (drop l.item-index l.items)).outcome ≡ (items_read l.theory l.procs l.fn.so_far l.items).outcome
