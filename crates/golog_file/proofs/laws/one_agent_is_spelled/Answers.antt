use Rattle.golog_file.proofs.Excluded.{one-agent}
use Rattle.golog_file.proofs.laws.one_agent_is_spelled.Goals as goal

pub returns : goal.returns
returns c = one-agent
