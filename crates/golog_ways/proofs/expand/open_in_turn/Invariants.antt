use Rattle.std.proofs.Common.{◌≡◌, map, take}
use Rattle.golog_ways.specs.Open.{open_places}
use Rattle.golog_ways.proofs.expand.open_in_turn.Given as goal

-- the places that were asked for so far
abbrev pub invariant-loop-one : goal.invariant-loop-one
invariant-loop-one l = l.all ≡ map (λ a. open_places l.agent a.values.now l.mode (map (λ f. f.cond) a.fronts.now)) (take l.one-index l.asked)
