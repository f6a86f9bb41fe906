use Rattle.std.proofs.Common.{length}
use Rattle.golog_check.proofs.start_values.+are_within.Given as goal

abbrev pub decreases-are_within : goal.decreases-are_within
decreases-are_within l = length l.sorts.now
