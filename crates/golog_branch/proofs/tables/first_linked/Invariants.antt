use Rattle.std.proofs.Common.{◌≡◌, drop}
use Rattle.golog_branch.specs.Levels.{link_plan}
use Rattle.golog_branch.proofs.Somes.{first_by}
use Rattle.golog_branch.proofs.tables.first_linked.Given as goal

-- the steps still to be tried decide
abbrev pub invariant-loop-link : goal.invariant-loop-link
invariant-loop-link l = first_by (link_plan l.table) l.links ≡ first_by (link_plan l.table) (drop l.link-index l.links)
