use Rattle.golog_fronts.proofs.FrontBlocks.{none_reached}
use Rattle.golog_fronts.proofs.laws.none_is_reached.Goals as goal

pub returns : goal.returns
returns c = none_reached
