use Rattle.std.proofs.Common.{◌≡◌, [], drop}
use Rattle.golog_theory.specs.Reading.{each}
use Rattle.golog_prog.specs.Items.{param_of}
use Rattle.golog_prog.proofs.items.each_param_of.Given as goal

abbrev pub invariant-loop-form : goal.invariant-loop-form
invariant-loop-form l =
    (each (param_of l.theory) l.params (drop l.form-index l.forms)).outcome ≡ (each (param_of l.theory) [] l.forms).outcome
