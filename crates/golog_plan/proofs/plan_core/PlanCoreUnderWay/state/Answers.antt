use Rattle.std.proofs.Common.{ap, ◌∙◌, subst}
use Rattle.golog_semantics.specs.InSorts.{AreInSorts}
use Rattle.golog_semantics.specs.Progress.{values_after}
use Rattle.golog_plan.specs.Keeping.{PlanCourse}
use Rattle.golog_plan.proofs.Following.{own-sorts, seen_as}
use Rattle.golog_plan.proofs.plan_core.PlanCoreUnderWay.state.Goals as goal

pub returns-clause-values : goal.returns-clause-values
returns-clause-values c = c.self.invariant.state_so ∙ ap (λ (v : PlanCourse). values_after v.agent v.list) c.self.view_is

pub returns-clause-sorts : goal.returns-clause-sorts
returns-clause-sorts c =
    let r = c.self.inside in
    subst (λ a. AreInSorts a r.state) (c.self.invariant.own_so ∙ ap (λ (v : PlanCourse). v.agent) c.self.view_is)
    (own-sorts (seen_as r.counts r.depth r.fuel) r.agent.now r.state r.kept r.ended c.self.invariant)
