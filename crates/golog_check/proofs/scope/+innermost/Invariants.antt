use Rattle.std.proofs.Common.{length}
use Rattle.golog_check.proofs.scope.+innermost.Given as goal

abbrev pub decreases-innermost : goal.decreases-innermost
decreases-innermost l = length l.scope.now
