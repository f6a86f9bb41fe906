use Rattle.std.proofs.Common.{◌≡◌, drop}
use Rattle.golog_branch.specs.Levels.{followed_step}
use Rattle.golog_branch.specs.Plans.{first_plan}
use Rattle.golog_branch.proofs.Somes.{first_by}
use Rattle.golog_branch.proofs.planner.Planner.first_last.Given as goal

-- the ways still to be tried decide
abbrev pub invariant-loop-way : goal.invariant-loop-way
invariant-loop-way l =
    let f = followed_step l.self.agent.now (first_plan l.self.agent.now 0) l.state in
    first_by f l.ways ≡ first_by f (drop l.way-index l.ways)
