use Rattle.golog_tree.proofs.EqualPrograms.{way-decides}
use Rattle.golog_tree.proofs.Tells.{so}
use Rattle.golog_tree.proofs.same.is_same_way.Goals as goal

pub returns : goal.returns
returns c = so _ _ c.eq.ensures (way-decides c.args.way.now c.args.other.now)
