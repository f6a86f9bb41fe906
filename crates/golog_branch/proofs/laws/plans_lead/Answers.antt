use Rattle.golog_branch.proofs.PlansFor.{plan-for}
use Rattle.golog_branch.proofs.laws.plans_lead.Goals as goal

pub returns : goal.returns
returns c = λ agent formed p values searched depth fuel t found. plan-for agent formed p values searched depth fuel t found
