use Rattle.std.proofs.Common.{◌≡◌, [], drop}
use Rattle.golog_theory.specs.Reading.{each}
use Rattle.golog_theory.specs.Actions.{device_of}
use Rattle.golog_theory.proofs.actions.devices_of.Given as goal

abbrev pub invariant-loop-form : goal.invariant-loop-form
invariant-loop-form l = (each (λ _. device_of l.theory) l.devices (drop l.form-index l.forms)).outcome ≡ (each (λ _. device_of l.theory) [] l.forms).outcome
