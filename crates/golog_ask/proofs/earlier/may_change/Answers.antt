use Rattle.std.proofs.Common.{sym, ◌∙◌, refl}
use Rattle.golog_ask.proofs.Taken.{event-fits, back-event, back-no-event}
use Rattle.golog_ask.proofs.earlier.may_change.Goals as goal

pub touches-requires-clause-event : goal.touches-requires-clause-event
touches-requires-clause-event c = event-fits c.args.agent.now c.args.entry c.in-Some.event c.requires.entry (sym c.event_of.ensures ∙ c.in-Some.is)

pub returns-in-Some : goal.returns-in-Some
returns-in-Some c = λ untouched.
    back-event c.args.agent.now c.args.entry c.event_of.result c.in-Some.event c.event_of.ensures c.in-Some.is c.args.cond.now c.args.cond.now (c.touches.ensures.stays untouched)

pub returns-in-None : goal.returns-in-None
returns-in-None c = λ untouched.
    back-no-event c.args.agent.now c.args.entry c.event_of.result c.event_of.ensures c.in-None.is c.args.cond.now c.args.cond.now refl
