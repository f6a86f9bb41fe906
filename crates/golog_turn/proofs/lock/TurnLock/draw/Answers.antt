use Rattle.std.proofs.Common.{rules}
use Rattle.golog_turn.proofs.TurnSteps.{draws_as}
use Rattle.golog_turn.proofs.lock.TurnLock.draw.Goals as goal

pub fetch_add-requires : goal.fetch_add-requires
fetch_add-requires g c = (search rules, search rules, draws_as g.O.Object.party g.O.Object.list _ _ _ c.requires.idle c.requires.party)
