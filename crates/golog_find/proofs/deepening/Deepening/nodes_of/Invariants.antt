use Rattle.std.proofs.Common.{◌≡◌, map, take}
use Rattle.golog_find.specs.Batches.{handed, node_at}
use Rattle.golog_find.proofs.deepening.Deepening.nodes_of.Given as goal

-- those of the states so far
abbrev pub invariant-loop-at : goal.invariant-loop-at
invariant-loop-at l = l.list ≡ map (node_at l.nodes) (handed (take l.at l.sources))
