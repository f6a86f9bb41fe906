use Rattle.golog_certain.proofs.BodiesPlain.{bodies_plain}
use Rattle.golog_certain.proofs.worlds.bodies_are_plain.Goals as goal

pub returns : goal.returns
returns c = bodies_plain
