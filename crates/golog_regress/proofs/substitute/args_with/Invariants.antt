use Rattle.std.proofs.Common.{◌≡◌, map, take}
use Rattle.golog_regress.specs.Images.{image}
use Rattle.golog_regress.proofs.substitute.args_with.Given as goal

abbrev pub invariant-loop-arg : goal.invariant-loop-arg
invariant-loop-arg l = l.list ≡ map (image l.images) (take l.arg-index l.args)
