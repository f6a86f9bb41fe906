use Rattle.golog_check.proofs.MadeWhole.{whole}
use Rattle.golog_check.proofs.laws.agents_fit.Goals as goal

pub returns : goal.returns
returns c = λ theory program keeps also none. whole theory program keeps also none
