use Rattle.golog_tests.proofs.watched.told_by_watch.Goals as goal

pub of-made-requires-clause-program : goal.of-made-requires-clause-program
of-made-requires-clause-program c = c.requires.formed.programs.main
