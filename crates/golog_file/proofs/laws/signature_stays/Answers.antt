use Rattle.golog_file.proofs.Signatures.{stays}
use Rattle.golog_file.proofs.laws.signature_stays.Goals as goal

pub returns : goal.returns
returns c = stays
