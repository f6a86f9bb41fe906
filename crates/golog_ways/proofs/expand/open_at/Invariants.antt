use Rattle.std.proofs.Common.{◌≡◌, map, take}
use Rattle.golog_ways.specs.Open.{open_places}
use Rattle.golog_ways.proofs.expand.open_at.Given as goal

-- the places of the fronts so far whose condition holds
abbrev pub invariant-loop-place : goal.invariant-loop-place
invariant-loop-place l = l.places ≡ open_places l.agent l.asked.values.now l.mode (map (λ f. f.cond) (take l.place l.asked.fronts.now))
