use Rattle.std.proofs.Common.{length}
use Rattle.golog_progress.proofs.bindings.+bound_by.Given as goal

abbrev pub decreases-bound_by : goal.decreases-bound_by
decreases-bound_by l = length l.args.now
