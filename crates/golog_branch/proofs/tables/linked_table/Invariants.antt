use Rattle.std.proofs.Common.{◌≡◌, map, take}
use Rattle.golog_branch.specs.Levels.{linked_plan}
use Rattle.golog_branch.proofs.tables.linked_table.Given as goal

-- the plans of the states so far
abbrev pub invariant-loop-linked : goal.invariant-loop-linked
invariant-loop-linked l = l.plans ≡ map (linked_plan l.table) (take l.linked-index l.level)
