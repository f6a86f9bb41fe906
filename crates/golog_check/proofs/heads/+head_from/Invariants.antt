use Rattle.std.proofs.Common.{length}
use Rattle.golog_check.proofs.heads.+head_from.Given as goal

abbrev pub decreases-head_from : goal.decreases-head_from
decreases-head_from l = length l.sorts.now
