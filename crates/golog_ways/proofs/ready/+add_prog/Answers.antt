use Rattle.golog_fronts.proofs.Closing.{test_fits}
use Rattle.golog_ways.proofs.ready.+add_prog.Goals as goal

pub add_cond-requires-clause-closed : goal.add_cond-requires-clause-closed
add_cond-requires-clause-closed t c = test_fits _ _ _ c.requires.closed c.in-Test.is
