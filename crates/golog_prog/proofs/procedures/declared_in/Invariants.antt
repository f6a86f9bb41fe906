use Rattle.std.proofs.Common.{◌≡◌, ◌++◌, drop}
use Rattle.golog_prog.specs.Procedures.{declared_in}
use Rattle.golog_prog.proofs.procedures.declared_in.Given as goal

abbrev pub invariant-loop-item : goal.invariant-loop-item
invariant-loop-item l = l.procs ++ declared_in (drop l.item-index l.items) ≡ declared_in l.items
