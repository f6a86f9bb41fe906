use Rattle.std.proofs.Common.{arith}
use Rattle.golog_tree.specs.declared.agent.ActionItem.{ActionItem}
use Rattle.golog_tree.proofs.Items.{few-at, count-more, count-fits}
use Rattle.golog_tree.proofs.ground.action_count.Goals as goal

pub args_count-count-requires-clause-few : goal.args_count-count-requires-clause-few
args_count-count-requires-clause-few c =
    few-at c.args.agent.now (λ (item : ActionItem). item.args) c.as_slice-item-items.result.now c.loop-item.item-index c.item-item.result _
    (record { below = c.loop-item-test.true; sorts_are = c.as_slice.ensures; is = c.item-item.is })
    (rw c.as_slice-item-items.ensures c.requires.action_arities)

pub overflow_add-count : goal.overflow_add-count
overflow_add-count c =
    let small = count-fits c.args.agent.now (λ (item : ActionItem). item.args) c.as_slice-item-items.result.now c.loop-item.item-index c.item-item.result _
    (record { below = c.loop-item-test.true; sorts_are = c.as_slice.ensures; is = c.item-item.is })
    c.loop-item.count c.args_count-count.result (rw c.as_slice-item-items.ensures c.loop-item.invariant) c.args_count-count.ensures in
    let most = rw (← c.as_slice-item-items.ensures) at c.requires.ground_actions in
    omega (arith, small, most)

pub loop-item-preserved : goal.loop-item-preserved
loop-item-preserved c =
    rw (← c.as_slice-item-items.ensures)
    (count-more c.args.agent.now (λ (item : ActionItem). item.args) c.as_slice-item-items.result.now c.loop-item.item-index c.item-item.result _
    (record { below = c.loop-item-test.true; sorts_are = c.as_slice.ensures; is = c.item-item.is })
    c.loop-item.count c.args_count-count.result (rw c.as_slice-item-items.ensures c.loop-item.invariant) c.args_count-count.ensures)
