use Rattle.std.proofs.Common.{length}
use Rattle.golog_trace.proofs.effects.+matched.Given as goal

abbrev pub decreases-matched : goal.decreases-matched
decreases-matched l = length l.args.now
