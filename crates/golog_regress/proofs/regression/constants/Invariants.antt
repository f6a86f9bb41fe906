use Rattle.std.proofs.Common.{◌≡◌, map, take}
use Rattle.golog_tree.specs.declared.cond.Arg.TheVariants.{Const}
use Rattle.golog_regress.proofs.regression.constants.Given as goal

abbrev pub invariant-loop-value : goal.invariant-loop-value
invariant-loop-value l = l.list ≡ map Const (take l.value-index l.values)
