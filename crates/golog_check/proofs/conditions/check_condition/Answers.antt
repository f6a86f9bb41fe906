use Rattle.golog_check.specs.DeclaredItems.{declared_in}
use Rattle.golog_check.proofs.Asked.{answered}
use Rattle.golog_check.proofs.LeastRow.{least-of-cond}
use Rattle.golog_check.proofs.conditions.check_condition.Goals as goal

pub returns-clause-least : goal.returns-clause-least
returns-clause-least c =
    least-of-cond (declared_in c.args.agent.now) c.of_agent.result c.of_agent.ensures c.args.cond.now c.cond_in.result c.cond_in.ensures

pub returns-clause-fits : goal.returns-clause-fits
returns-clause-fits c = answered c.args.agent.now c.requires.formed c.args.cond.now c.requires.kept c.of_agent.result c.of_agent.ensures c.cond_in.result c.cond_in.ensures
