use Rattle.std.proofs.Common.{arith, ◌+◌, ◌<◌, ◌≤◌, ◌/◌, ◌%◌}
use Rattle.std.proofs.Math.Nat.{mod-lt}
use Rattle.golog_tree.specs.Ground.{product, sizes}
use Rattle.golog_tree.proofs.Decoded.{rest-pos, size-pos, set-arg, found-all}
use Rattle.golog_tree.proofs.ground.args_at_place.Goals as goal

pub nonzero_div-args : goal.nonzero_div-args
nonzero_div-args c =
    let some : 0 < product (sizes c.args.agent.now c.args.sorts.now) = omega (arith, c.requires.within) in
    rw c.args_count-later.ensures (rest-pos c.args.agent.now c.args.sorts.now (c.loop-index.index + 1) some)

pub nonzero_rem-args : goal.nonzero_rem-args
nonzero_rem-args c =
    let some : 0 < product (sizes c.args.agent.now c.args.sorts.now) = omega (arith, c.requires.within) in
    rw c.sort_size.ensures.size (size-pos c.args.agent.now c.args.sorts.now c.loop-index.index c.loop-index-test.true some)

pub overflow_cast-args : goal.overflow_cast-args
overflow_cast-args c =
    let below = mod-lt (c.args.place / c.args_count-later.result) (nonzero_rem-args c) in
    omega (arith, below, c.sort_size.ensures.small)

pub loop-index-preserved : goal.loop-index-preserved
loop-index-preserved c =
    set-arg c.args.agent.now c.args.sorts.now c.loop-index.args c.loop-index.index c.args.place c.args_count-later.result
    c.sort_size.result c.loop-index-test.true c.requires.few c.loop-index.invariant c.args_count-later.ensures
    c.sort_size.ensures.size

pub returns : goal.returns
returns c =
    found-all c.args.agent.now c.args.sorts.now c.loop-index.args c.loop-index.index c.args.place
    (omega (arith, c.loop-index-test.false, c.loop-index.auto.index-end)) c.loop-index.invariant
