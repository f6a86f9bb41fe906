use Rattle.golog_trace.proofs.Matched.{untold}
use Rattle.golog_trace.proofs.effects.untold_stays.Goals as goal

pub returns : goal.returns
returns c = untold
