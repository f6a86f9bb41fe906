use Rattle.golog_branch.proofs.PlannedSo.{plans-so}
use Rattle.golog_branch.proofs.laws.plan_journals_are_so.Goals as goal

pub returns : goal.returns
returns c = λ agent formed free depth fuel journal keeps. plans-so agent depth fuel formed journal keeps free
