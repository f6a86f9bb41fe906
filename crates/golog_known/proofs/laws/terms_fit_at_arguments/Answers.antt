use Rattle.golog_known.proofs.Arguments.{terms_fit}
use Rattle.golog_known.proofs.laws.terms_fit_at_arguments.Goals as goal

pub returns : goal.returns
returns c = terms_fit
