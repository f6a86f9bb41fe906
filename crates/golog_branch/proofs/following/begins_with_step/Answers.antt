use Rattle.std.proofs.Common.{sym}
use Rattle.golog_branch.proofs.KeptPlans.{begins, begins-not}
use Rattle.golog_branch.proofs.following.begins_with_step.Goals as goal

pub returns-in-Done : goal.returns-in-Done
returns-in-Done c = sym (begins-not c.args.tree.now c.in-Done.is)

pub returns-in-Step : goal.returns-in-Step
returns-in-Step c = sym (begins c.args.tree.now c.in-Step.label c.in-Step.left c.in-Step.next c.in-Step.is)
