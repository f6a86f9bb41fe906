use Rattle.golog_tree.proofs.EqualPrograms.{ways-decide}
use Rattle.golog_tree.proofs.Tells.{so}
use Rattle.golog_tree.proofs.same.are_same_ways.Goals as goal

pub returns : goal.returns
returns c = so _ _ c.eq.ensures (ways-decide c.args.ways.now c.args.other.now)
