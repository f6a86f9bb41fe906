use Rattle.golog_threads.proofs.Fitting.{post-stays}
use Rattle.golog_threads.proofs.laws.post_stays.Goals as goal

pub returns : goal.returns
returns c agent journal others device taken item list none plain = post-stays agent journal others list device taken item none plain
