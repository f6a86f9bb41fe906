use Rattle.golog_semantics.proofs.Unfolded.{moves_with-out}
use Rattle.golog_semantics.proofs.step_laws.moves_unfold.Goals as goal

pub returns : goal.returns
returns c = λ agent g values blocks m p. moves_with-out agent values blocks g m p
