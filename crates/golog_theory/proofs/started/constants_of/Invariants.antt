use Rattle.std.proofs.Common.{take}
use Rattle.golog_theory.specs.Started.{AreWritten}
use Rattle.golog_theory.proofs.started.constants_of.Given as goal

abbrev pub invariant-loop-arg : goal.invariant-loop-arg
invariant-loop-arg l = AreWritten l.constants.items (take l.arg-index l.args)
