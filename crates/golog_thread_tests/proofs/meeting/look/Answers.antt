use Rattle.std.proofs.Common.{◌∙◌, ap}
use Rattle.golog_journal.specs.Growing.{program}
use Rattle.golog_thread_tests.proofs.Looking.{looks-then}
use Rattle.golog_thread_tests.proofs.meeting.look.Goals as goal

pub test_early-commit-requires-clause-held : goal.test_early-commit-requires-clause-held
test_early-commit-requires-clause-held g c =
    ap (λ holds. holds program) c.copied-count.ensures.looks.watches.leads.same_holds ∙ c.requires.held

pub test_early-commit-requires-clause-goes_on : goal.test_early-commit-requires-clause-goes_on
test_early-commit-requires-clause-goes_on g c = c.copied-count.ensures.looks.goes_on c.requires.goes_on

pub returns-then-count-gt0 : goal.returns-then-count-gt0
returns-then-count-gt0 g c = looks-then _ _ _ c.copied-count.ensures.looks c.test_early-commit.ensures
