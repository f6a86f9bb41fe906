use Rattle.std.proofs.Common.{◌≡◌, take}
use Rattle.golog_shapes.specs.Fronts.{reach_round}
use Rattle.golog_shapes.specs.Told.{calls_told}
use Rattle.golog_shapes.proofs.reaching.ReachingRound.next.Given as goal

abbrev pub invariant-loop-item : goal.invariant-loop-item
invariant-loop-item l = l.after ≡ reach_round (calls_told (take l.item-index l.self.items.now)) l.self.goal l.before
