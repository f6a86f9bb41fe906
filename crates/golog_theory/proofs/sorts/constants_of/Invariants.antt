use Rattle.std.proofs.Common.{◌≡◌, [], drop}
use Rattle.golog_theory.specs.Reading.{each}
use Rattle.golog_theory.specs.Sorts.{constant_of}
use Rattle.golog_theory.proofs.sorts.constants_of.Given as goal

abbrev pub invariant-loop-form : goal.invariant-loop-form
invariant-loop-form l = (each (constant_of l.theory l.own) l.names (drop l.form-index l.forms)).outcome ≡ (each (constant_of l.theory l.own) [] l.forms).outcome
