use Rattle.golog_semantics.proofs.FrontCallsLaws.{guarded_is_unreached}
use Rattle.golog_semantics.proofs.step_laws.guarded_by_reach.Goals as goal

pub returns : goal.returns
returns c = guarded_is_unreached
