use Rattle.std.proofs.Common.{◌∙◌, ap}
use Rattle.std.specs.Prelude.{position}
use Rattle.golog_theory.specs.Names.{same}
use Rattle.golog_prog.specs.declared.procedures.Declared.{Declared}
use Rattle.golog_prog.proofs.procedures.Procedures.of.Goals as goal

pub invariant_of-result : goal.invariant_of-result
invariant_of-result c =
    λ word. c.in_ok-numbers.ensures word ∙ ap (λ procs. position (λ (proc : Declared). same word proc.name) procs) c.as_slice.ensures
