use Rattle.golog_semantics.proofs.Unfolded.{moves_with-settled}
use Rattle.golog_semantics.proofs.step_laws.moves_settle.Goals as goal

pub returns : goal.returns
returns c = λ agent g values blocks m p depth h. moves_with-settled agent values blocks g m p depth h
