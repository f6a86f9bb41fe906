use Rattle.std.proofs.Common.{◌≤◌, length, subst}
use Rattle.golog_semantics.specs.Journal.{longest}
use Rattle.golog_plan.specs.Keeping.{IsFollowed, PlanCourse}
use Rattle.golog_plan.proofs.plan_core.PlanCore.keeps_rules.Goals as goal

pub returns-clause-followed : goal.returns-clause-followed
returns-clause-followed c = subst IsFollowed c.self.view_is c.self.invariant.followed

pub returns-clause-short : goal.returns-clause-short
returns-clause-short c = subst (λ (v : PlanCourse). length v.list ≤ longest) c.self.view_is c.len-length.ensures.most
