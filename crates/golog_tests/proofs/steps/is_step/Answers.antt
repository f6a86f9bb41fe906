use Rattle.golog_tests.proofs.steps.is_step.Goals as goal

pub is_certain-requires-clause-searched : goal.is_certain-requires-clause-searched
is_certain-requires-clause-searched c =
    record { program = c.requires.formed.programs.main; blockless = c.requires.blockless; sorts = c.requires.sorts }
