use Rattle.std.proofs.Common.{take}
use Rattle.golog_theory.specs.Names.{same}
use Rattle.golog_theory.specs.Index.{Finds}
use Rattle.golog_theory.proofs.index.numbers_of.Given as goal

abbrev pub invariant-loop-number : goal.invariant-loop-number
invariant-loop-number g l = Finds (λ word item. same word (g.T.Named.name item)) l.numbers (take l.number l.items)
