use Rattle.std.proofs.Common.{◌≡◌, map, take}
use Rattle.golog_check.specs.Starts.{constant}
use Rattle.golog_check.proofs.starts.constants.Given as goal

abbrev pub invariant-loop-arg : goal.invariant-loop-arg
invariant-loop-arg l = l.values ≡ map constant (take l.arg-index l.args)
