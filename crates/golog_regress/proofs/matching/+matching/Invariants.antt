use Rattle.std.proofs.Common.{length}
use Rattle.golog_regress.proofs.matching.+matching.Given as goal

abbrev pub decreases-matching : goal.decreases-matching
decreases-matching l = length l.head.now
