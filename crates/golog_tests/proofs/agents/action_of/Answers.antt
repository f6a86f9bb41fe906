-- What was read is a place in the list.
use Rattle.golog_tests.proofs.Counted.{listed}
use Rattle.golog_tests.proofs.agents.action_of.Goals as goal

pub returns-in-Some : goal.returns-in-Some
returns-in-Some c = listed c.args.agent.now _ c.read_action.result c.in-Some.action c.read_action.ensures c.in-Some.is
