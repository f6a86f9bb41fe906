use Rattle.golog_laws.proofs.TidyStays.{lefts_tidy}
use Rattle.golog_laws.proofs.programs.lefts_are_tidy.Goals as goal

pub returns : goal.returns
returns c = λ agent bodies values m p h step k. lefts_tidy agent bodies values m p h step k
