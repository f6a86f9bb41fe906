use Rattle.std.proofs.Common.{◌≡◌, map, take}
use Rattle.golog_semantics.specs.Search.{plain_ways}
use Rattle.golog_ways.proofs.expand.ways_in_turn.Given as goal

-- the steps of the nodes so far
abbrev pub invariant-loop-node : goal.invariant-loop-node
invariant-loop-node l = l.all ≡ map (λ node. plain_ways l.agent node.state l.mode node.left) (take l.node-index l.nodes)
