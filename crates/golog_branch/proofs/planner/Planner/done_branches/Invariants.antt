use Rattle.std.proofs.Common.{◌≡◌, drop, map}
use Rattle.golog_branch.specs.declared.cases.Case.{Case}
use Rattle.golog_branch.specs.Levels.{case_of}
use Rattle.golog_branch.specs.Plans.{all_some, branch_for, first_plan}
use Rattle.golog_branch.proofs.Somes.{with_all}
use Rattle.golog_branch.proofs.planner.Planner.done_branches.Given as goal

-- the cases still to come decide
abbrev pub invariant-loop-case : goal.invariant-loop-case
invariant-loop-case l =
    let f = λ (c : Case). branch_for (first_plan l.self.agent.now 0) l.left (case_of c) in
    all_some (map f l.cases) ≡ with_all f l.next (drop l.case-index l.cases)
