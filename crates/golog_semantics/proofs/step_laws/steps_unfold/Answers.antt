use Rattle.golog_semantics.proofs.Unfolded.{block_moves-out}
use Rattle.golog_semantics.proofs.step_laws.steps_unfold.Goals as goal

pub returns : goal.returns
returns c = λ agent g values m p. block_moves-out agent values g m p
