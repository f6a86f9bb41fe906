use Rattle.golog_tree.proofs.Copied.{cond-same}
use Rattle.golog_tree.proofs.copy.copy_cond.Goals as goal

pub returns : goal.returns
returns c = let e = cond-same c.args.cond.now in rw (← e) c.cond_with.ensures
