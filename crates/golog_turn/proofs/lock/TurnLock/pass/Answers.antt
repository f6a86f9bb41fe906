use Rattle.std.proofs.Common.{rules}
use Rattle.golog_turn.proofs.TurnSteps.{passes_as}
use Rattle.golog_turn.proofs.lock.TurnLock.pass.Goals as goal

pub store-requires : goal.store-requires
store-requires g c = (search rules, search rules, passes_as g.O.Object.party g.O.Object.list _ _ c.args.ticket _ _ (search rules) c.requires.served (search rules))
