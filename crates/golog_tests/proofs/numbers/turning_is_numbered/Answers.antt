-- What was read is below their count.
use Rattle.golog_tests.proofs.Counted.{counted}
use Rattle.golog_tests.proofs.numbers.turning_is_numbered.Goals as goal

pub is_turning-requires-clause-number : goal.is_turning-requires-clause-number
is_turning-requires-clause-number c =
    counted c.args.agent.now _ c.read_action.result c.in-Some.number c.read_action.ensures c.in-Some.is
