use Rattle.std.proofs.Common.{◌+◌, ◌*◌}
use Rattle.golog_form.specs.Spelling.{nest}
use Rattle.golog_theory.proofs.Descent.{deepest}
use Rattle.golog_theory.proofs.terms.+terms.Given as goal

abbrev pub decreases-term_of : goal.decreases-term_of
decreases-term_of l = 4 * nest l.form.now

abbrev pub decreases-term_list : goal.decreases-term_list
decreases-term_list l = 4 * deepest l.parts.now + 3

abbrev pub decreases-boxed_of : goal.decreases-boxed_of
decreases-boxed_of l = 4 * nest l.form.now + 1

abbrev pub decreases-plus_of : goal.decreases-plus_of
decreases-plus_of l = 4 * deepest l.parts.now + 2

abbrev pub decreases-minus_of : goal.decreases-minus_of
decreases-minus_of l = 4 * deepest l.parts.now + 2
