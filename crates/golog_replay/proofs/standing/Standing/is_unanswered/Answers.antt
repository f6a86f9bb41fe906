use Rattle.std.proofs.Common.{not, refl, sym, ap, ◌∙◌, subst}
use Rattle.golog_semantics.specs.Journal.{is_open}
use Rattle.golog_replay.specs.Standings.{HoldsBy}
use Rattle.golog_replay.proofs.Awaiting.{unanswered-none, unanswered-one}
use Rattle.golog_replay.proofs.standing.Standing.is_unanswered.Goals as goal

pub is_open-requires-clause-device : goal.is_open-requires-clause-device
is_open-requires-clause-device c =
    (subst (HoldsBy c.args.agent.now c.args.before.now) c.in-Some.is c.requires.holds).is_device

pub returns-in-Some : goal.returns-in-Some
returns-in-Some c =
    let one = subst (HoldsBy c.args.agent.now c.args.before.now) c.in-Some.is c.requires.holds in
    ap not c.is_open.ensures
    ∙ sym (unanswered-one c.args.agent.now c.args.before.now c.in-Some.held one (is_open c.in-Some.held.device c.args.before.now) refl)

pub returns-in-None : goal.returns-in-None
returns-in-None c =
    sym
    (unanswered-none c.args.agent.now c.args.before.now
    (subst (HoldsBy c.args.agent.now c.args.before.now) c.in-None.is c.requires.holds))
