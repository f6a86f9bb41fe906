use Rattle.std.proofs.Common.{◌≡◌}
use Rattle.golog_semantics.specs.Fronts.{open_ways}
use Rattle.golog_fronts.specs.FrontLists.{guarded}
use Rattle.golog_ways.proofs.listing.open_ways.Given as goal

-- the ways of the fronts so far whose condition holds
abbrev pub invariant-loop-front : goal.invariant-loop-front
invariant-loop-front l = l.ways ≡ open_ways l.agent l.state l.mode (guarded l.yielded)
