use Rattle.std.proofs.Common.{◌≡◌, ◌+◌, ◌*◌, List, [], map, drop}
use Rattle.golog_form.specs.Spelling.{nest}
use Rattle.golog_tree.specs.declared.draft_prog.DraftProg.{DraftProg}
use Rattle.golog_theory.specs.Reading.{each}
use Rattle.golog_theory.specs.Recursion.{Part}
use Rattle.golog_theory.proofs.Descent.{deepest}
use Rattle.golog_prog.specs.Constructs.{InScope}
use Rattle.golog_prog.specs.Programs.{prog_part}
use Rattle.golog_prog.proofs.programs.Reader.+programs.Given as goal

abbrev pub decreases-prog_of : goal.decreases-prog_of
decreases-prog_of l = 6 * nest l.form.now

abbrev pub decreases-construct_of : goal.decreases-construct_of
decreases-construct_of l = 6 * deepest l.parts.now + 5

abbrev pub decreases-several_of : goal.decreases-several_of
decreases-several_of l = 6 * deepest l.parts.now + 2

abbrev pub decreases-progs_of : goal.decreases-progs_of
decreases-progs_of l = 6 * deepest l.forms.now + 1

abbrev pub decreases-pick_of : goal.decreases-pick_of
decreases-pick_of l = 6 * deepest l.parts.now + 3

abbrev pub decreases-one_of : goal.decreases-one_of
decreases-one_of l = 6 * deepest l.parts.now + 2

abbrev pub decreases-boxed_of : goal.decreases-boxed_of
decreases-boxed_of l = 6 * nest l.form.now + 1

abbrev pub decreases-guarded_of : goal.decreases-guarded_of
decreases-guarded_of l = 6 * nest l.body.now + 2

abbrev pub decreases-if_of : goal.decreases-if_of
decreases-if_of l = 6 * deepest l.parts.now + 3

abbrev pub decreases-guard_of : goal.decreases-guard_of
decreases-guard_of l = 6 * deepest l.parts.now + 3

abbrev pub decreases-search_of : goal.decreases-search_of
decreases-search_of l = 6 * deepest l.parts.now + 3

abbrev pub decreases-interrupt_of : goal.decreases-interrupt_of
decreases-interrupt_of l = 6 * deepest l.parts.now + 4

abbrev pub decreases-interrupts_of : goal.decreases-interrupts_of
decreases-interrupts_of l = 6 * deepest l.parts.now + 3

abbrev pub invariant-progs_of-loop-form : goal.invariant-progs_of-loop-form
invariant-progs_of-loop-form l =
    (each (λ (_ : List DraftProg) (part : Part InScope). part.spelled l.scope) l.progs (map (prog_part l.self.theory.now l.self.procs.now) (drop l.form-index l.forms))).outcome
    ≡ (each (λ (_ : List DraftProg) (part : Part InScope). part.spelled l.scope) [] (map (prog_part l.self.theory.now l.self.procs.now) l.forms)).outcome
