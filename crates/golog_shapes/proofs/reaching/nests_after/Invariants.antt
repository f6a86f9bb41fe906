use Rattle.std.proofs.Common.{◌≡◌, map, take}
use Rattle.golog_shapes.specs.Fronts.{nest_round}
use Rattle.golog_shapes.specs.Told.{nesting}
use Rattle.golog_shapes.proofs.reaching.nests_after.Given as goal

abbrev pub invariant-loop-item : goal.invariant-loop-item
invariant-loop-item l = l.after ≡ nest_round 1025 (map nesting (take l.item-index l.items)) l.before
