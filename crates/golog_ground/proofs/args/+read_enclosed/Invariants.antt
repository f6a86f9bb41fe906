use Rattle.std.proofs.Common.{length}
use Rattle.golog_ground.proofs.args.+read_enclosed.Given as goal

abbrev pub decreases-read_enclosed : goal.decreases-read_enclosed
decreases-read_enclosed l = length l.sorts.now
