use Rattle.std.proofs.Common.{ap, ◌∙◌, sym}
use Rattle.golog_semantics.specs.Journal.{is_quiet}
use Rattle.golog_plan.specs.Keeping.{PlanCourse}
use Rattle.golog_plan.proofs.Decisions.{bare-waits, depth-next}
use Rattle.golog_plan.proofs.plan_core.PlanCore.without_plan.Goals as goal

pub returns-then-is_quiet : goal.returns-then-is_quiet
returns-then-is_quiet c =
    depth-next c.args.self.now c.requires.settled c.requires.none
    (ap (λ (v : PlanCourse). is_quiet v.agent v.list) (sym c.self.view_is) ∙ sym c.is_quiet.ensures ∙ c.if-is_quiet.true)

pub returns-else-is_quiet : goal.returns-else-is_quiet
returns-else-is_quiet c =
    bare-waits c.args.self.now c.requires.settled c.requires.none
    (ap (λ (v : PlanCourse). is_quiet v.agent v.list) (sym c.self.view_is) ∙ sym c.is_quiet.ensures ∙ c.if-is_quiet.false)
