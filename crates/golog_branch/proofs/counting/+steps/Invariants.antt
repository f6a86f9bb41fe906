use Rattle.std.proofs.Common.{◌≡◌, map, min, take}
use Rattle.std.specs.List.{sum}
use Rattle.golog_branch.specs.declared.tree.Branch.{Branch}
use Rattle.golog_branch.specs.Trees.{steps}
use Rattle.golog_branch.proofs.counting.+steps.Given as goal

-- the steps of the branches so far
abbrev pub invariant-steps_behind-loop-branch : goal.invariant-steps_behind-loop-branch
invariant-steps_behind-loop-branch l = l.count ≡ min (sum (map (λ (b : Branch). steps b.tree) (take l.branch-index l.next))) l.most
