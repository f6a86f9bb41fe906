use Rattle.std.proofs.Common.{◌≡◌, map}
use Rattle.std.specs.List.{range_with_len}
use Rattle.golog_branch.specs.Levels.{case_of}
use Rattle.golog_branch.specs.Trees.{with_sensed}
use Rattle.golog_branch.proofs.planner.Planner.sensed_cases.Given as goal

-- a case for each constant so far
abbrev pub invariant-loop-value : goal.invariant-loop-value
invariant-loop-value l = map case_of l.cases ≡ map (with_sensed l.there l.fluent) (range_with_len 0 l.value)
