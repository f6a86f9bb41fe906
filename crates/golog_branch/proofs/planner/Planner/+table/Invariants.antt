use Rattle.std.proofs.Common.{length}
use Rattle.golog_branch.proofs.planner.Planner.+table.Given as goal

abbrev pub decreases-table : goal.decreases-table
decreases-table l = length l.levels.now
