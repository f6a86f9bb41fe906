use Rattle.golog_certain.proofs.RunsStay.{ways_settle}
use Rattle.golog_certain.proofs.knowledge.ways_settle.Goals as goal

pub returns : goal.returns
returns c = ways_settle
