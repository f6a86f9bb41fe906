use Rattle.std.proofs.Common.{◌≡◌, [], drop}
use Rattle.golog_theory.specs.Reading.{each}
use Rattle.golog_theory.specs.Parts.{sort_of}
use Rattle.golog_theory.proofs.fluents.each_sort_of.Given as goal

abbrev pub invariant-loop-form : goal.invariant-loop-form
invariant-loop-form l = (each (λ _. sort_of l.theory) l.sorts (drop l.form-index l.forms)).outcome ≡ (each (λ _. sort_of l.theory) [] l.forms).outcome
