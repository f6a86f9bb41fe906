use Rattle.golog_plan.proofs.Decisions.{label-done, label-step}
use Rattle.golog_plan.proofs.deciding.label_of.Goals as goal

pub returns-in-Done : goal.returns-in-Done
returns-in-Done c = label-done c.args.tree.now c.in-Done.is

pub returns-in-Step : goal.returns-in-Step
returns-in-Step c = label-step c.args.tree.now c.in-Step.label c.in-Step.left c.in-Step.next c.in-Step.is
