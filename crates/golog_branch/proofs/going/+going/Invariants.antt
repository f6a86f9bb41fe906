use Rattle.std.proofs.Common.{◌≡◌, map}
use Rattle.golog_branch.specs.Going.{all_go, branch_going}
use Rattle.golog_branch.specs.Levels.{case_of}
use Rattle.golog_branch.proofs.GoingOn.{from}
use Rattle.golog_branch.proofs.going.+going.Given as goal

-- the branches still to come decide
abbrev pub invariant-branches_go-loop-index : goal.invariant-branches_go-loop-index
invariant-branches_go-loop-index l =
    all_go (map (branch_going l.planner.agent.now) l.next) l.left (map case_of l.cases) ≡ from l.planner.agent.now l.next l.cases l.left l.index
