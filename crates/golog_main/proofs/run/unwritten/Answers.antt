use Rattle.std.proofs.Common.{[]}
use Rattle.golog_main.proofs.Reporting.{has-ended}
use Rattle.golog_main.proofs.run.unwritten.Goals as goal

pub returns-clause-ended : goal.returns-clause-ended
returns-clause-ended g c = has-ended _ c.args.agent.now [] _ _ _ _ c.written_in_rounds.result c.written_in_rounds.ensures
