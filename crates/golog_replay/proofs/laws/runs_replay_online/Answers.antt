use Rattle.golog_replay.proofs.Texts.{runs_replay_online}
use Rattle.golog_replay.proofs.laws.runs_replay_online.Goals as goal

pub returns : goal.returns
returns c = runs_replay_online
