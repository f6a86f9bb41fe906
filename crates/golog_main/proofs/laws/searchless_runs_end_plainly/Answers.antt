use Rattle.golog_main.proofs.Searchless.{searchless}
use Rattle.golog_main.proofs.laws.searchless_runs_end_plainly.Goals as goal

pub returns : goal.returns
returns c = searchless
