use Rattle.golog_tree.proofs.Copied.{prog-same}
use Rattle.golog_tree.proofs.substitute.part_without.Goals as goal

pub returns : goal.returns
returns c = let e = prog-same c.args.part.now in rw e c.share.ensures
