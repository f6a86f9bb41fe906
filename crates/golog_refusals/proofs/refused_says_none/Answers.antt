use Rattle.golog_refusals.proofs.WholeSaid.{refused-says-none}
use Rattle.golog_refusals.proofs.refused_says_none.Goals as goal

pub returns : goal.returns
returns c = refused-says-none
