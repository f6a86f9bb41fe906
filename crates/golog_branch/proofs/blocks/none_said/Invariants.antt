use Rattle.std.proofs.Common.{◌≡◌, false, map, take}
use Rattle.golog_tree.specs.declared.agent.ProcItem.{ProcItem}
use Rattle.golog_branch.proofs.blocks.none_said.Given as goal

abbrev pub invariant-loop-item : goal.invariant-loop-item
invariant-loop-item l = l.said ≡ map (λ (item : ProcItem). false) (take l._item-index l.procs)
