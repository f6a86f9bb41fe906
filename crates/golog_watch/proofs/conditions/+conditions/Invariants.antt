use Rattle.std.proofs.Common.{length}
use Rattle.golog_watch.proofs.conditions.+conditions.Given as goal

abbrev pub decreases-conditions : goal.decreases-conditions
decreases-conditions l = length l.run.now
