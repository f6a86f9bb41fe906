use Rattle.std.proofs.Common.{length}
use Rattle.golog_par.proofs.chunks.+fn-in_parts-join+arg3+in_parts.Given as goal

abbrev pub decreases-join+arg3 : goal.decreases-join+arg3
decreases-join+arg3 g l = length l.rest.now

abbrev pub decreases-in_parts : goal.decreases-in_parts
decreases-in_parts g l = length l.items.now
