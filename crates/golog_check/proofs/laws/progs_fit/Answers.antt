use Rattle.golog_check.proofs.ProgLaws.{progs-fit}
use Rattle.golog_check.proofs.laws.progs_fit.Goals as goal

pub returns : goal.returns
returns c = progs-fit
