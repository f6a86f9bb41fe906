use Rattle.std.proofs.Common.{take}
use Rattle.std.specs.List.{flat_map}
use Rattle.golog_tree.specs.declared.draft.DraftProc.{DraftProc}
use Rattle.golog_rows.specs.Least.{IsLeastOf}
use Rattle.golog_shapes.specs.DraftBlocks.{block_refusals}
use Rattle.golog_shapes.proofs.blocks.blocks_refused.Given as goal

abbrev pub invariant-loop-item : goal.invariant-loop-item
invariant-loop-item l =
    IsLeastOf l.least (flat_map (λ (item : DraftProc). block_refusals l.said item.body) (take l.item-index l.procs))
