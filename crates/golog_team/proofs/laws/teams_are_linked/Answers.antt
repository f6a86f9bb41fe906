use Rattle.std.proofs.Common.{sym}
use Rattle.golog_team.proofs.Meeting.{linked}
use Rattle.golog_team.proofs.laws.teams_are_linked.Goals as goal

pub returns : goal.returns
returns c first second waits their_waits s t k their o theirs same =
    (linked first second 0 waits their_waits s t k their o theirs same, linked second first 1 their_waits waits t s their k theirs o (sym same))
