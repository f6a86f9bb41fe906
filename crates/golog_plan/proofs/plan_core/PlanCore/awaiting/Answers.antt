use Rattle.std.proofs.Common.{ap, ◌∙◌, subst, sym}
use Rattle.golog_semantics.specs.Journal.{may_be_answered}
use Rattle.golog_plan.specs.Keeping.{IsFollowed, LacksOne, PlanCourse}
use Rattle.golog_plan.proofs.Decisions.{awaiting-next, unanswered-next}
use Rattle.golog_plan.proofs.plan_core.PlanCore.awaiting.Goals as goal

pub returns-then-may_be_answered : goal.returns-then-may_be_answered
returns-then-may_be_answered c =
    awaiting-next c.args.self.now (subst IsFollowed c.self.view_is c.self.invariant.followed) (subst (λ (v : PlanCourse). LacksOne v.agent v.list) c.self.view_is c.self.invariant.lacks_one)
    c.requires.room c.requires.lacking
    (ap (λ (v : PlanCourse). may_be_answered v.agent v.list) (sym c.self.view_is) ∙ sym c.may_be_answered.ensures ∙ c.if-may_be_answered.true)

pub returns-else-may_be_answered : goal.returns-else-may_be_answered
returns-else-may_be_answered c =
    unanswered-next c.args.self.now c.requires.room c.requires.lacking
    (ap (λ (v : PlanCourse). may_be_answered v.agent v.list) (sym c.self.view_is) ∙ sym c.may_be_answered.ensures ∙ c.if-may_be_answered.false)
