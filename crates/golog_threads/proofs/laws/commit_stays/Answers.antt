use Rattle.golog_threads.proofs.Fitting.{commit-stays}
use Rattle.golog_threads.proofs.laws.commit_stays.Goals as goal

pub returns : goal.returns
returns c = commit-stays
