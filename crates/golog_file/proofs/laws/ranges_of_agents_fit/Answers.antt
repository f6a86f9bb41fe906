use Rattle.golog_file.proofs.Ranges.{ranged}
use Rattle.golog_file.proofs.laws.ranges_of_agents_fit.Goals as goal

pub returns : goal.returns
returns c = ranged
