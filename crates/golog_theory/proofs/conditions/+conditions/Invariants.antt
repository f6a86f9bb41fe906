use Rattle.std.proofs.Common.{◌≡◌, ◌+◌, ◌*◌, List, [], map, drop}
use Rattle.golog_form.specs.Spelling.{nest}
use Rattle.golog_tree.specs.declared.draft_cond.DraftCond.{DraftCond}
use Rattle.golog_theory.specs.Reading.{each}
use Rattle.golog_theory.specs.Recursion.{Part}
use Rattle.golog_theory.specs.Conditions.{InScope, cond_part}
use Rattle.golog_theory.proofs.Descent.{deepest}
use Rattle.golog_theory.proofs.conditions.+conditions.Given as goal

abbrev pub decreases-cond_of : goal.decreases-cond_of
decreases-cond_of l = 5 * nest l.form.now

abbrev pub decreases-keyword_cond : goal.decreases-keyword_cond
decreases-keyword_cond l = 5 * deepest l.parts.now + 4

abbrev pub decreases-not_of : goal.decreases-not_of
decreases-not_of l = 5 * deepest l.parts.now + 2

abbrev pub decreases-boxed_of : goal.decreases-boxed_of
decreases-boxed_of l = 5 * nest l.form.now + 1

abbrev pub decreases-conds_of : goal.decreases-conds_of
decreases-conds_of l = 5 * deepest l.forms.now + 1

abbrev pub decreases-bound_of : goal.decreases-bound_of
decreases-bound_of l = 5 * deepest l.parts.now + 2

abbrev pub invariant-conds_of-loop-form : goal.invariant-conds_of-loop-form
invariant-conds_of-loop-form l =
    (each (λ (_ : List DraftCond) (part : Part InScope). part.spelled l.scope) l.conds (map (cond_part l.theory) (drop l.form-index l.forms))).outcome
    ≡ (each (λ (_ : List DraftCond) (part : Part InScope). part.spelled l.scope) [] (map (cond_part l.theory) l.forms)).outcome
