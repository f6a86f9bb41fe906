use Rattle.golog_branch.proofs.PlanAnswers.{ends-plainly}
use Rattle.golog_branch.proofs.laws.plans_end_plainly.Goals as goal

pub returns : goal.returns
returns c = λ agent depth fuel before a keeps. ends-plainly agent depth fuel before a keeps
