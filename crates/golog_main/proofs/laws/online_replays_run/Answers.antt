use Rattle.golog_main.proofs.Replayed.{replays-run}
use Rattle.golog_main.proofs.laws.online_replays_run.Goals as goal

pub returns : goal.returns
returns c = replays-run c.online_is_an_online_run.ensures
