use Rattle.std.proofs.Common.{◌≡◌, map, drop}
use Rattle.std.specs.Prelude.{max, slice_index}
use Rattle.golog_semantics.specs.FrontCalls.{greatest}
use Rattle.golog_shapes.proofs.reaching.greatest_of.Given as goal

abbrev pub invariant-loop-item : goal.invariant-loop-item
invariant-loop-item l =
    greatest (map (slice_index l.nests) l.calls) ≡ max (greatest (map (slice_index l.nests) (drop l.item-index l.calls))) l.greatest
