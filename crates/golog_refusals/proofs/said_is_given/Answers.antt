use Rattle.golog_refusals.proofs.WholeSaid.{said-is-given}
use Rattle.golog_refusals.proofs.said_is_given.Goals as goal

pub returns : goal.returns
returns c = said-is-given
