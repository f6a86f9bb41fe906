use Rattle.std.proofs.Common.{◌≤◌, length, ap, subst, ◌∙◌}
use Rattle.golog_semantics.specs.Journal.{longest}
use Rattle.golog_plan.specs.Keeping.{PlanCourse}
use Rattle.golog_plan.proofs.plan_core.PlanCoreUnderWay.len.Goals as goal

pub returns-clause-number : goal.returns-clause-number
returns-clause-number c = c.len.ensures.number ∙ ap (λ (v : PlanCourse). length v.list) c.self.view_is

pub returns-clause-most : goal.returns-clause-most
returns-clause-most c = subst (λ (v : PlanCourse). length v.list ≤ longest) c.self.view_is c.len.ensures.most
