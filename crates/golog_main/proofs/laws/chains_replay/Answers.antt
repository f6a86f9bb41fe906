use Rattle.golog_main.proofs.Chains.{chains-replay}
use Rattle.golog_main.proofs.laws.chains_replay.Goals as goal

pub returns : goal.returns
returns c = chains-replay c.written_reads_back.ensures c.online_is_an_online_run.ensures
