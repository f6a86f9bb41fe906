use Rattle.std.proofs.Common.{arith, refl}
use Rattle.golog_tree.proofs.Items.{IsItem, few-at, count-more, made}
use Rattle.golog_tree.proofs.ground.ground_of.Goals as goal

pub args_count-count-requires-clause-few : goal.args_count-count-requires-clause-few
args_count-count-requires-clause-few g c =
    few-at c.args.agent.now g.T.HasArgs.arg_sorts c.args.items.now c.loop-item.item c.index-items-item.result _
    (record { below = c.loop-item-test.true; sorts_are = c.arg_sorts-sorts.ensures; is = c.index-items-item.is }) c.requires.few

pub overflow_cast-result-then-place-count : goal.overflow_cast-result-then-place-count
overflow_cast-result-then-place-count g c =
    let few = few-at c.args.agent.now g.T.HasArgs.arg_sorts c.args.items.now c.loop-item.item c.index-items-item.result _
    (record { below = c.loop-item-test.true; sorts_are = c.arg_sorts-sorts.ensures; is = c.index-items-item.is }) c.requires.few in
    omega (arith, few)

pub args_at_place-requires-clause-few : goal.args_at_place-requires-clause-few
args_at_place-requires-clause-few g c =
    few-at c.args.agent.now g.T.HasArgs.arg_sorts c.args.items.now c.loop-item.item c.index-items-item.result _
    (record { below = c.loop-item-test.true; sorts_are = c.arg_sorts-sorts.ensures; is = c.index-items-item.is }) c.requires.few

pub returns-then-place-count : goal.returns-then-place-count
returns-then-place-count g c =
    made c.args.agent.now g.T.HasArgs.arg_sorts c.args.items.now c.loop-item.item c.index-items-item.result _
    (record { below = c.loop-item-test.true; sorts_are = c.arg_sorts-sorts.ensures; is = c.index-items-item.is })
    c.args.number c.loop-item.place c.args_count-count.result _ c.if-place-count.true c.args_count-count.ensures
    c.loop-item.invariant refl refl c.args_at_place.ensures

pub loop-item-preserved : goal.loop-item-preserved
loop-item-preserved g c =
    let more = count-more c.args.agent.now g.T.HasArgs.arg_sorts c.args.items.now c.loop-item.item c.index-items-item.result _
    (record { below = c.loop-item-test.true; sorts_are = c.arg_sorts-sorts.ensures; is = c.index-items-item.is })
    _ c.args_count-count.result refl c.args_count-count.ensures in
    omega (arith, more, c.loop-item.invariant, c.if-place-count.false)
