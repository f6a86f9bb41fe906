use Rattle.golog_main.proofs.PlanLemmas.{plans-plain}
use Rattle.golog_main.proofs.laws.plans_end_plainly.Goals as goal

pub returns : goal.returns
returns c = plans-plain c.plans_end_plainly.ensures
