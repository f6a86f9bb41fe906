use Rattle.std.proofs.Common.{◌≡◌, ◌==◌, drop, find}
use Rattle.golog_branch.specs.declared.tree.Branch.{Branch}
use Rattle.golog_branch.proofs.following.plan_with.Given as goal

-- the branches still to come decide
abbrev pub invariant-loop-branch : goal.invariant-loop-branch
invariant-loop-branch l =
    let test = λ (b : Branch). b.value == l.value in
    find test l.next ≡ find test (drop l.branch-index l.next)
