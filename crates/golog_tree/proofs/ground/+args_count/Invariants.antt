use Rattle.std.proofs.Common.{length}
use Rattle.golog_tree.proofs.ground.+args_count.Given as goal

abbrev pub decreases-args_count : goal.decreases-args_count
decreases-args_count l = length l.sorts.now
