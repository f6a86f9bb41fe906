use Rattle.std.proofs.Common.{◌≡◌, [], drop}
use Rattle.golog_theory.specs.Reading.{each}
use Rattle.golog_theory.specs.Fluents.{constant_arg}
use Rattle.golog_theory.proofs.fluents.constants_of.Given as goal

abbrev pub invariant-loop-form : goal.invariant-loop-form
invariant-loop-form l = (each (λ _. constant_arg l.theory) l.args (drop l.form-index l.forms)).outcome ≡ (each (λ _. constant_arg l.theory) [] l.forms).outcome
