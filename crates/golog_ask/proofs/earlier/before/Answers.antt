use Rattle.std.proofs.Common.{◌≡◌, [], ◌∷◌, sym, ◌∙◌}
use Rattle.golog_regress.specs.Regression.{IsRegressed}
use Rattle.golog_ask.specs.Events.{events_of}
use Rattle.golog_ask.proofs.Taken.{event-fits, back-event, back-no-event, if-ok-more}
use Rattle.golog_ask.proofs.earlier.before.Goals as goal

pub regress-requires-clause-event : goal.regress-requires-clause-event
regress-requires-clause-event c = event-fits c.args.agent.now c.args.entry c.in-Some.event c.requires.entry (sym c.event_of.ensures ∙ c.in-Some.is)

pub returns-in-Some : goal.returns-in-Some
returns-in-Some c =
    if-ok-more (λ answer. IsRegressed c.args.agent.now (c.in-Some.event ∷ []) c.args.cond.now answer)
    (λ answer. IsRegressed c.args.agent.now (events_of (c.args.entry ∷ [])) c.args.cond.now answer) c.regress.result
    (λ answer taken. back-event c.args.agent.now c.args.entry c.event_of.result c.in-Some.event c.event_of.ensures c.in-Some.is c.args.cond.now answer taken) c.regress.ensures

pub returns-in-None : goal.returns-in-None
returns-in-None c =
    if-ok-more (λ answer. answer ≡ c.args.cond.now)
    (λ answer. IsRegressed c.args.agent.now (events_of (c.args.entry ∷ [])) c.args.cond.now answer) c.copy_cond.result
    (λ answer same. back-no-event c.args.agent.now c.args.entry c.event_of.result c.event_of.ensures c.in-None.is c.args.cond.now answer same) c.copy_cond.ensures
