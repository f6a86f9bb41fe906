use Rattle.golog_semantics.proofs.Unfolded.{final-settled}
use Rattle.golog_semantics.proofs.step_laws.final_settles.Goals as goal

pub returns : goal.returns
returns c = λ agent g values m p depth h. final-settled agent values g m p depth h
