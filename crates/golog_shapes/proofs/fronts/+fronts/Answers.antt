use Rattle.std.proofs.Common.{true, false, arith}
use Rattle.golog_shapes.proofs.ForeLaws.{row-goes, row-ends, row-done}
use Rattle.golog_shapes.proofs.fronts.+fronts.Goals as goal

pub front_of_seq-loop-part-init : goal.front_of_seq-loop-part-init
front_of_seq-loop-part-init t c = λ skip after f. f

pub front_of_seq-loop-part-preserved : goal.front_of_seq-loop-part-preserved
front_of_seq-loop-part-preserved t c = λ skip after f.
    c.loop-part.invariant skip after
    (row-goes c.args.skips.now c.args.parts.now c.loop-part.part-index c.part-item.result (omega arith) c.part-item.is c.in_ok-skip.skip
    c.loop-part.calls c.front_of.new.calls c.in_ok-skip.ensures c.if-not-skip.false skip after f)

pub front_of_seq-returns-then-not-skip : goal.front_of_seq-returns-then-not-skip
front_of_seq-returns-then-not-skip t c =
    c.loop-part.invariant false c.front_of.new.calls
    (row-ends c.args.skips.now c.args.parts.now c.loop-part.part-index c.part-item.result (omega arith) c.part-item.is c.in_ok-skip.skip
    c.loop-part.calls c.front_of.new.calls c.in_ok-skip.ensures c.if-not-skip.true)

pub front_of_seq-returns : goal.front_of_seq-returns
front_of_seq-returns t c =
    c.loop-part.invariant true c.loop-part.calls
    (row-done c.args.skips.now c.args.parts.now c.loop-part.part-index (omega arith) c.loop-part.calls)
