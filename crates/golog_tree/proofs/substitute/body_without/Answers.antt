use Rattle.golog_tree.proofs.Copied.{cond-same}
use Rattle.golog_tree.proofs.substitute.body_without.Goals as goal

pub returns : goal.returns
returns c = let e = cond-same c.args.body.now in rw e c.share.ensures
