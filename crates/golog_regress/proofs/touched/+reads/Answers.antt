use Rattle.std.proofs.Common.{◌≡◌, true, get_or, sym}
use Rattle.golog_regress.specs.Touched.{reads}
use Rattle.golog_regress.proofs.Read.{one-reads}
use Rattle.golog_regress.proofs.touched.+reads.Goals as goal

pub one_reads-returns-then-reads : goal.one_reads-returns-then-reads
one_reads-returns-then-reads t c =
    let read : reads c.args.fluent (get_or c.args.conds.now c.loop-cond.cond-index c.cond-item.result) ≡ true = cc in
    sym (one-reads c.args.fluent c.args.conds.now c.loop-cond.cond-index c.cond-item.result c.loop-cond-test.true read)
