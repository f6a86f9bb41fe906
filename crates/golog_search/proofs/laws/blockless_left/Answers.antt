use Rattle.golog_search.proofs.LeftBlockless.{left_blockless}
use Rattle.golog_search.proofs.laws.blockless_left.Goals as goal

pub returns : goal.returns
returns c = left_blockless
