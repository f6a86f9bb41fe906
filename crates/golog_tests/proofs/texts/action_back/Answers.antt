-- What was read is below their count.
use Rattle.golog_tests.proofs.Counted.{counted}
use Rattle.golog_tests.proofs.texts.action_back.Goals as goal

pub action_text-requires-clause-number : goal.action_text-requires-clause-number
action_text-requires-clause-number c =
    counted c.args.agent.now _ c.read_action.result c.in-Some.found c.read_action.ensures c.in-Some.is
