use Rattle.std.proofs.Common.{length}
use Rattle.golog_check.proofs.heads.+scope_on.Given as goal

abbrev pub decreases-scope_on : goal.decreases-scope_on
decreases-scope_on l = length l.sorts.now
