use Rattle.std.proofs.Common.{◌≡◌, drop}
use Rattle.golog_theory.specs.Effects.{variables_after}
use Rattle.golog_theory.proofs.effects.add_variables.Given as goal

abbrev pub invariant-loop-arg : goal.invariant-loop-arg
invariant-loop-arg l = variables_after l.theory l.vars (drop l.arg-index l.args) ≡ variables_after l.theory l.initial.vars l.args
