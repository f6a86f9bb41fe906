use Rattle.std.proofs.Common.{◌≡◌, ◌+◌, suc, map, ap, ◌∙◌, arith}
use Rattle.golog_tree.specs.declared.agent.ProcItem.{ProcItem}
use Rattle.golog_semantics.specs.BlockFree.{has_block_by, proc_blocks_to}
use Rattle.golog_branch.proofs.blocks.has_block.Goals as goal

pub loop-round-preserved : goal.loop-round-preserved
loop-round-preserved c =
    let agent = c.args.agent.now in
    let n = c.loop-round._round in
    let next : suc n ≡ n + 1 = omega arith in
    let said : c.as_slice.result.now ≡ proc_blocks_to n agent = c.as_slice.ensures ∙ c.loop-round.invariant in
    let procs : c.as_slice-procs.result.now ≡ agent.procs = c.as_slice-procs.ensures in
    c.more_said-more.ensures
    ∙ (λ i. map (λ (item : ProcItem). has_block_by (said i) item.body) (procs i))
    ∙ ap (λ k. proc_blocks_to k agent) next
