use Rattle.std.proofs.Common.{length}
use Rattle.golog_trace.proofs.reading.+may_all_be.Given as goal

abbrev pub decreases-may_all_be : goal.decreases-may_all_be
decreases-may_all_be l = length l.args.now
