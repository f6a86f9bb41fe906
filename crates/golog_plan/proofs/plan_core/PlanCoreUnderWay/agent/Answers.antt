use Rattle.std.proofs.Common.{ap, ◌∙◌}
use Rattle.golog_plan.specs.Keeping.{PlanCourse}
use Rattle.golog_plan.proofs.Following.{own-formed, seen_as}
use Rattle.golog_plan.proofs.plan_core.PlanCoreUnderWay.agent.Goals as goal

pub returns-clause-agent : goal.returns-clause-agent
returns-clause-agent c = c.self.invariant.own_so ∙ ap (λ (v : PlanCourse). v.agent) c.self.view_is

pub returns-clause-formed : goal.returns-clause-formed
returns-clause-formed c =
    let r = c.self.inside in
    own-formed (seen_as r.counts r.depth r.fuel) r.agent.now r.state r.kept r.ended c.self.invariant
