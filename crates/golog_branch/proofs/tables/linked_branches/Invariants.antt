use Rattle.std.proofs.Common.{◌≡◌, drop, map}
use Rattle.golog_branch.specs.Levels.{branch_in}
use Rattle.golog_branch.specs.Plans.{all_some}
use Rattle.golog_branch.proofs.Somes.{with_all}
use Rattle.golog_branch.proofs.tables.linked_branches.Given as goal

-- the jumps still to come decide
abbrev pub invariant-loop-jump : goal.invariant-loop-jump
invariant-loop-jump l = all_some (map (branch_in l.table) l.next) ≡ with_all (branch_in l.table) l.branches (drop l.jump-index l.next)
