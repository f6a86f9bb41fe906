use Rattle.std.proofs.Common.{rules}
use Rattle.golog_find.proofs.visits.Visits.new.Goals as goal

pub returns : goal.returns
returns c agent progs = record { opened = search rules; placed = search rules; effects = c.new-3.ensures agent }
