use Rattle.golog_team.proofs.Unrefused.{unrefused-match}
use Rattle.golog_team.proofs.laws.unrefused_match.Goals as goal

pub returns : goal.returns
returns c = unrefused-match
