use Rattle.golog_certain.proofs.TransUnfolded.{step_unfolds}
use Rattle.golog_certain.proofs.worlds.trans_unfolds.Goals as goal

pub returns : goal.returns
returns c = λ agent g world p label left. step_unfolds agent g world p label left
