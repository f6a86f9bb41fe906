use Rattle.golog_team.proofs.Led.{gathered-same}
use Rattle.golog_team.proofs.posting.gather.Goals as goal

pub returns-clause-journal : goal.returns-clause-journal
returns-clause-journal g c = gathered-same c.args.journal.now c.gather.new.board c.gather.ensures.watches
