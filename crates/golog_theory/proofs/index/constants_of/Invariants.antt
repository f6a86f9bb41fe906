use Rattle.std.proofs.Common.{take}
use Rattle.golog_theory.specs.Names.{lists}
use Rattle.golog_theory.specs.Index.{Finds}
use Rattle.golog_theory.proofs.index.constants_of.Given as goal

abbrev pub invariant-loop-number : goal.invariant-loop-number
invariant-loop-number l = Finds lists l.numbers (take l.number l.sorts)
