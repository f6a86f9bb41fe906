use Rattle.golog_check.proofs.ReachLaws.{reach-said, said-reach}
use Rattle.golog_check.proofs.laws.unguarded_is_reached.Goals as goal

pub returns : goal.returns
returns c = λ agent item. (said-reach agent item item, reach-said agent item item)
