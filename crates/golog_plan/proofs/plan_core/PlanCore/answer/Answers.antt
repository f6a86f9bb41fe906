use Rattle.std.proofs.Common.{subst}
use Rattle.golog_lead.specs.Keeping.{EndsBy}
use Rattle.golog_plan.specs.Keeping.{PlanCourse}
use Rattle.golog_plan.proofs.plan_core.PlanCore.answer.Goals as goal

pub returns : goal.returns
returns c = subst (λ (v : PlanCourse). EndsBy v.list c.self.inside.ended) c.self.view_is c.self.invariant.ends
