use Rattle.golog_replay.proofs.Texts.{online_is_an_online_run}
use Rattle.golog_replay.proofs.laws.online_is_an_online_run.Goals as goal

pub returns : goal.returns
returns c = online_is_an_online_run
