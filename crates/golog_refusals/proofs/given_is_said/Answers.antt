use Rattle.golog_refusals.proofs.WholeSaid.{given-is-said}
use Rattle.golog_refusals.proofs.given_is_said.Goals as goal

pub returns : goal.returns
returns c = given-is-said
