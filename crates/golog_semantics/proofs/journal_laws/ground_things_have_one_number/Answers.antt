use Rattle.golog_semantics.proofs.NumbersStand.{one_number}
use Rattle.golog_semantics.proofs.journal_laws.ground_things_have_one_number.Goals as goal

pub returns : goal.returns
returns c = one_number
