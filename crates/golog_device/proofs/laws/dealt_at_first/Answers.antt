use Rattle.golog_device.proofs.DealtFirst.{dealt_at_first}
use Rattle.golog_device.proofs.laws.dealt_at_first.Goals as goal

pub returns : goal.returns
returns c = dealt_at_first
