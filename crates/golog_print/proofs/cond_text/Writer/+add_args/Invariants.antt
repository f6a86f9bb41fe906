use Rattle.std.proofs.Common.{length}
use Rattle.golog_print.proofs.cond_text.Writer.+add_args.Given as goal

abbrev pub decreases-add_args : goal.decreases-add_args
decreases-add_args l = length l.sorts.now
