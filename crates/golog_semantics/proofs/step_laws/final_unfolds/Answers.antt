use Rattle.golog_semantics.proofs.Unfolded.{final-out}
use Rattle.golog_semantics.proofs.step_laws.final_unfolds.Goals as goal

pub returns : goal.returns
returns c = λ agent g values m p. final-out agent values g m p
