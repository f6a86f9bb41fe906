use Rattle.golog_device.proofs.DealtFirst.{dealt_stays}
use Rattle.golog_device.proofs.laws.dealt_stays.Goals as goal

pub returns : goal.returns
returns c = dealt_stays
