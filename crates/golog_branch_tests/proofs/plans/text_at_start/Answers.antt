use Rattle.golog_journal.proofs.Serving.{well_formed_serves}
use Rattle.golog_branch_tests.proofs.plans.text_at_start.Goals as goal

pub of-requires : goal.of-requires
of-requires c = well_formed_serves c.args.agent.now c.requires.formed

pub text_there-text-requires-clause-searched : goal.text_there-text-requires-clause-searched
text_there-text-requires-clause-searched c =
    record { program = c.requires.formed.programs.main; blockless = c.requires.blockless; sorts = c.in_ok-state.ensures.sorts }
