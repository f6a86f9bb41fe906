use Rattle.std.proofs.Common.{◌≡◌, List, ◌++◌, map, take}
use Rattle.std.specs.List.{list_any}
use Rattle.golog_rows.specs.Least.{CodeAt, IsLeastOf}
use Rattle.golog_shapes.specs.DraftBlocks.{blocks_of, of_each}
use Rattle.golog_shapes.specs.Fronts.{draft_has}
use Rattle.golog_shapes.proofs.blocks.+blocks.Given as goal

abbrev pub invariant-blocks_in_each-loop-part : goal.invariant-blocks_in_each-loop-part
invariant-blocks_in_each-loop-part l = record {
  has : l.has ≡ list_any (λ has. has) (map (draft_has l.said) (take l.part-index l.parts));
  least : (before : List CodeAt) → IsLeastOf l.fn.least before
      → IsLeastOf l.least (before ++ of_each (map (blocks_of l.said) (take l.part-index l.parts)));
}
