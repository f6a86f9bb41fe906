use Rattle.std.proofs.Common.{length}
use Rattle.golog_find.proofs.search.+steps_to.Given as goal

abbrev pub decreases-steps_to : goal.decreases-steps_to
decreases-steps_to l = length l.before.now
