use Rattle.std.proofs.Common.{◌≡◌}
use Rattle.golog_semantics.specs.BlockFree.{proc_blocks_to}
use Rattle.golog_branch.proofs.blocks.has_block.Given as goal

-- what so many rounds say
abbrev pub invariant-loop-round : goal.invariant-loop-round
invariant-loop-round l = l.said ≡ proc_blocks_to l._round l.agent
