use Rattle.std.proofs.Common.{◌≡◌, map, take}
use Rattle.std.specs.List.{range_with_len}
use Rattle.golog_tree.specs.Ground.{ground_count}
use Rattle.golog_check.proofs.numbering.firsts_of.Given as goal

abbrev pub invariant-loop-item : goal.invariant-loop-item
invariant-loop-item g l =
    (l.count ≡ ground_count l.agent (take l.item-index (map g.T.HasArgs.arg_sorts l.items)))
    × (l.firsts ≡ map (λ item. ground_count l.agent (take item (map g.T.HasArgs.arg_sorts l.items))) (range_with_len 0 l.item-index))
