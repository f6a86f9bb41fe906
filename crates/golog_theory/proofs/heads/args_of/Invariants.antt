use Rattle.std.proofs.Common.{◌≡◌, [], drop}
use Rattle.golog_theory.specs.Reading.{each}
use Rattle.golog_theory.specs.Parts.{arg_of}
use Rattle.golog_theory.proofs.heads.args_of.Given as goal

abbrev pub invariant-loop-form : goal.invariant-loop-form
invariant-loop-form l = (each (λ _. arg_of) l.args (drop l.form-index l.forms)).outcome ≡ (each (λ _. arg_of) [] l.forms).outcome
