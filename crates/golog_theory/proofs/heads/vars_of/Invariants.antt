use Rattle.std.proofs.Common.{◌≡◌, [], drop}
use Rattle.golog_theory.specs.Reading.{each}
use Rattle.golog_theory.specs.Heads.{var_of}
use Rattle.golog_theory.proofs.heads.vars_of.Given as goal

abbrev pub invariant-loop-form : goal.invariant-loop-form
invariant-loop-form l = (each (var_of l.theory) l.vars (drop l.form-index l.forms)).outcome ≡ (each (var_of l.theory) [] l.forms).outcome
