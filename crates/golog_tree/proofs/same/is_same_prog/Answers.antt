use Rattle.golog_tree.proofs.EqualPrograms.{prog-decides}
use Rattle.golog_tree.proofs.Tells.{so}
use Rattle.golog_tree.proofs.same.is_same_prog.Goals as goal

pub returns : goal.returns
returns c = so _ _ c.eq.ensures (prog-decides c.args.prog.now c.args.other.now)
