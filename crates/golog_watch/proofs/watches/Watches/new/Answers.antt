use Rattle.std.proofs.Common.{[]}
use Rattle.golog_watch.proofs.Keeping.{none-kept, watches}
use Rattle.golog_watch.proofs.watches.Watches.new.Goals as goal

pub returns : goal.returns
returns c = λ agent. watches agent _ [] c.in_ok-watches.ensures.items (none-kept agent)
