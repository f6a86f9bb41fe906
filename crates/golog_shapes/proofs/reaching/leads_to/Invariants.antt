use Rattle.std.proofs.Common.{◌≡◌, drop}
use Rattle.golog_shapes.specs.Unguarded.{leads_to}
use Rattle.golog_shapes.proofs.reaching.leads_to.Given as goal

abbrev pub invariant-loop-item : goal.invariant-loop-item
invariant-loop-item l = leads_to l.goal l.said l.calls ≡ leads_to l.goal l.said (drop l.item-index l.calls)
