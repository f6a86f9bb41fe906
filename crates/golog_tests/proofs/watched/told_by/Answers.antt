use Rattle.golog_tests.proofs.watched.told_by.Goals as goal

pub still-requires-clause-searched : goal.still-requires-clause-searched
still-requires-clause-searched g c =
    record { program = c.requires.formed.programs.main; blockless = c.requires.blockless; sorts = c.requires.sorts }
