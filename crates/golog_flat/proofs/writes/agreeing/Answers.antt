use Rattle.std.proofs.Common.{◌<◌, length, arith}
use Rattle.golog_flat.proofs.Agreeing.{agree-all, agree-next, agree-none}
use Rattle.golog_flat.proofs.writes.agreeing.Goals as goal

pub loop-place-init : goal.loop-place-init
loop-place-init c = agree-none c.args.lows.now c.args.highs.now c.new-writes.result c.new-writes.ensures

pub loop-place-preserved : goal.loop-place-preserved
loop-place-preserved c =
    let below : c.loop-place.place < length c.args.lows.now = omega arith in
    agree-next c.args.lows.now c.args.highs.now c.loop-place.place below c.loop-place.writes c.in_ok-writes.writes c.in_ok-writes.ensures c.loop-place.invariant

pub returns : goal.returns
returns c = agree-all c.args.lows.now c.args.highs.now c.loop-place.place c.loop-place.writes (omega arith) c.loop-place.invariant
