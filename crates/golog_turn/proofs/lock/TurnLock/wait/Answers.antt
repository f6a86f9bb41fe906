use Rattle.std.proofs.Common.{rules, sym, subst}
use Rattle.golog_turn.specs.Steps.{IsWaiting}
use Rattle.golog_turn.proofs.TurnSteps.{looks_as}
use Rattle.golog_turn.proofs.lock.TurnLock.wait.Goals as goal

pub load-serving-requires : goal.load-serving-requires
load-serving-requires g c =
    let waits = subst (IsWaiting c.args.ticket) (sym c.loop.invariant.3) c.requires.waits in
    (search rules, search rules, looks_as g.O.Object.party g.O.Object.list _ _ c.args.ticket _ waits)
