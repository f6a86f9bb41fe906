use Rattle.std.proofs.Common.{true, Option, Some, sym, ap, ◌∙◌, subst}
use Rattle.std.specs.Prelude.{IfOk, IsTrue, List}
use Rattle.golog_semantics.specs.ProgFits.{fits}
use Rattle.golog_semantics.specs.InSorts.{AreInSorts}
use Rattle.golog_semantics.specs.WellFormed.{WellFormed}
use Rattle.golog_ways.specs.declared.ready.Ready.{Ready}
use Rattle.golog_ways.specs.Ready.{AreReady}
use Rattle.golog_search.specs.declared.decision.Decision.{Decision}
use Rattle.golog_search.specs.Decided.{IsAhead}
use Rattle.golog_agent.specs.Configuration.{Configuration}
use Rattle.golog_agent.proofs.KeptDecision.{kept-ahead}
use Rattle.golog_agent.proofs.decider.Decider.look.Goals as goal

pub decide_step_of-requires-clause-agent : goal.decide_step_of-requires-clause-agent
decide_step_of-requires-clause-agent g c = subst (λ (v : Configuration). WellFormed v.agent) (sym c.self.view_is) c.requires.formed

pub decide_step_of-requires-clause-program : goal.decide_step_of-requires-clause-program
decide_step_of-requires-clause-program g c = subst (λ (v : Configuration). IsTrue (fits v.agent v.left)) (sym c.self.view_is) c.requires.fitting

pub decide_step_of-requires-clause-sorts : goal.decide_step_of-requires-clause-sorts
decide_step_of-requires-clause-sorts g c = subst (λ (v : Configuration). AreInSorts v.agent v.values) (sym c.self.view_is) c.requires.sorted

pub decide_step_of-requires-clause-shallow : goal.decide_step_of-requires-clause-shallow
decide_step_of-requires-clause-shallow g c = c.self.invariant.0

pub decide_step_of-requires-clause-serves : goal.decide_step_of-requires-clause-serves
decide_step_of-requires-clause-serves g c = c.self.invariant.2

pub decide_step_of-requires-clause-checked : goal.decide_step_of-requires-clause-checked
decide_step_of-requires-clause-checked g c = subst (λ (ready : List Ready). AreReady c.self.inside.agent.now ready) (sym c.as_slice.ensures) c.self.invariant.3

pub returns-then-here-clause-ahead : goal.returns-then-here-clause-ahead
returns-then-here-clause-ahead g c =
    let r = c.self.inside in
    subst (λ (o : Option Decision). IsAhead c.args.self.now.agent c.args.self.now.values c.args.self.now.left true o) (sym c.take.ensures.value)
    (subst (λ (v : Configuration). IsAhead v.agent v.values v.left true r.ahead.decision) c.self.view_is
    (kept-ahead r.agent.now r.left r.state r.ahead.decision r.ahead.at (sym c.take-at.ensures.value ∙ (c.is_at-here.ensures.0 c.if-here.true ∙ ap (λ vs. Some vs) c.values.ensures)) c.self.invariant.1))

pub returns-else-here-clause-ahead : goal.returns-else-here-clause-ahead
returns-else-here-clause-ahead g c =
    subst (λ (v : Configuration). IfOk c.decide_step_of.result (IsAhead v.agent v.values v.left true)) c.self.view_is c.decide_step_of.ensures.ahead
