use Rattle.std.proofs.Common.{◌≡◌, map, take}
use Rattle.golog_tree.specs.declared.agent.ProcItem.{ProcItem}
use Rattle.golog_semantics.specs.BlockFree.{has_block_by}
use Rattle.golog_branch.proofs.blocks.more_said.Given as goal

abbrev pub invariant-loop-item : goal.invariant-loop-item
invariant-loop-item l = l.said ≡ map (λ (item : ProcItem). has_block_by l.before item.body) (take l.item-index l.procs)
