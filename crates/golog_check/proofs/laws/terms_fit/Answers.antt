use Rattle.golog_check.proofs.TermLaws.{terms-fit}
use Rattle.golog_check.proofs.laws.terms_fit.Goals as goal

pub returns : goal.returns
returns c = terms-fit
