use Rattle.std.proofs.Common.{◌≡◌, true, get_or, sym}
use Rattle.golog_trace.specs.Reading.{reads}
use Rattle.golog_trace.proofs.Read.{one-reads}
use Rattle.golog_trace.proofs.reading.+reads.Goals as goal

pub one_reads-returns-then-reads : goal.one_reads-returns-then-reads
one_reads-returns-then-reads t c =
    let read : reads c.args.fluent c.args.given.now (get_or c.args.conds.now c.loop-cond.cond-index c.cond-item.result) ≡ true = cc in
    sym (one-reads c.args.fluent c.args.given.now c.args.conds.now c.loop-cond.cond-index c.cond-item.result c.loop-cond-test.true read)
