use Rattle.std.proofs.Common.{length}
use Rattle.golog_ground.proofs.args.+push_enclosed.Given as goal

abbrev pub decreases-push_enclosed : goal.decreases-push_enclosed
decreases-push_enclosed l = length l.sorts.now
