use Rattle.std.proofs.Common.{◌≡◌, ◌≤◌, map, drop}
use Rattle.std.specs.Prelude.{min, max}
use Rattle.golog_shapes.specs.DraftNest.{parts_nest, draft_nest}
use Rattle.golog_shapes.proofs.NestTo.{below}
use Rattle.golog_shapes.proofs.nesting.+depth.Given as goal

abbrev pub invariant-parts_nest_to-loop-index : goal.invariant-parts_nest_to-loop-index
invariant-parts_nest_to-loop-index l = record {
  within : l.above ≤ l.limit;
  same : min (parts_nest (map draft_nest l.parts)) l.limit ≡ max l.deepest (below l.limit l.above (map draft_nest (drop l.index l.parts)));
}
