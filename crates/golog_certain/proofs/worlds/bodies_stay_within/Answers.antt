use Rattle.golog_certain.proofs.BodiesPlain.{bodies_stay}
use Rattle.golog_certain.proofs.worlds.bodies_stay_within.Goals as goal

pub returns : goal.returns
returns c = λ agent f values m p h step k. bodies_stay agent f values m p h step k
