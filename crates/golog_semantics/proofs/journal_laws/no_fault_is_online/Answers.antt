use Rattle.golog_semantics.proofs.NoFaults.{no_fault_is_online}
use Rattle.golog_semantics.proofs.journal_laws.no_fault_is_online.Goals as goal

pub returns : goal.returns
returns c = no_fault_is_online
