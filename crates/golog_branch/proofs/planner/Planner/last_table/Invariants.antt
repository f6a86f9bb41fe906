use Rattle.std.proofs.Common.{◌≡◌, map, take}
use Rattle.golog_branch.specs.declared.spot.Spot.{Spot}
use Rattle.golog_branch.specs.Plans.{first_plan}
use Rattle.golog_branch.proofs.planner.Planner.last_table.Given as goal

-- the plans of the states so far
abbrev pub invariant-loop-spot : goal.invariant-loop-spot
invariant-loop-spot l = l.table ≡ map (λ (s : Spot). first_plan l.self.agent.now 1 s.left s.state) (take l.spot-index l.spots)
