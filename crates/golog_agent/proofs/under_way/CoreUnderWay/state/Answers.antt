use Rattle.std.proofs.Common.{sym, ap, ◌∙◌, subst}
use Rattle.golog_semantics.specs.Progress.{values_after}
use Rattle.golog_semantics.specs.InSorts.{AreInSorts}
use Rattle.golog_agent.specs.Configuration.{Configuration}
use Rattle.golog_lead.specs.Courses.{Course}
use Rattle.golog_agent.proofs.Growth.{sound}
use Rattle.golog_agent.proofs.under_way.CoreUnderWay.state.Goals as goal

pub returns-clause-values : goal.returns-clause-values
returns-clause-values c =
    c.state.ensures ∙ ap (λ (k : Configuration). k.values) c.self.invariant.known_so ∙ ap (λ (v : Course). values_after v.agent v.list) c.self.view_is

pub returns-clause-sorts : goal.returns-clause-sorts
returns-clause-sorts c =
    let r = c.self.inside in
    let known = sound r.counts.agent r.counts.entries r.decider c.self.invariant.known_so c.self.invariant.under_way in
    subst (AreInSorts c.args.self.now.agent) (sym c.state.ensures)
    (subst (λ a. AreInSorts a r.decider.values) (ap (λ (k : Configuration). k.agent) c.self.invariant.known_so ∙ ap (λ (v : Course). v.agent) c.self.view_is) known.sorted)
