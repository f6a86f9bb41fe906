use Rattle.std.proofs.Common.{ap, ◌∙◌, sym}
use Rattle.golog_semantics.specs.Journal.{is_full, lacks_results}
use Rattle.golog_plan.specs.Keeping.{PlanCourse}
use Rattle.golog_plan.proofs.Decisions.{full-next, memory-next}
use Rattle.golog_plan.proofs.plan_core.PlanCore.next.Goals as goal

pub returns-then-is_full : goal.returns-then-is_full
returns-then-is_full c = full-next c.args.self.now (ap (λ (v : PlanCourse). is_full v.list) (sym c.self.view_is) ∙ sym c.is_full.ensures ∙ c.if-is_full.true)

pub awaiting-requires-clause-room : goal.awaiting-requires-clause-room
awaiting-requires-clause-room c = ap (λ (v : PlanCourse). is_full v.list) (sym c.self.view_is) ∙ sym c.is_full.ensures ∙ c.if-is_full.false

pub awaiting-requires-clause-lacking : goal.awaiting-requires-clause-lacking
awaiting-requires-clause-lacking c =
    ap (λ (v : PlanCourse). lacks_results v.agent v.list) (sym c.self.view_is) ∙ sym c.lacks_results.ensures ∙ c.if-lacks_results.true

pub settled-requires-clause-room : goal.settled-requires-clause-room
settled-requires-clause-room c = ap (λ (v : PlanCourse). is_full v.list) (sym c.self.view_is) ∙ sym c.is_full.ensures ∙ c.if-is_full.false

pub settled-requires-clause-none : goal.settled-requires-clause-none
settled-requires-clause-none c =
    ap (λ (v : PlanCourse). lacks_results v.agent v.list) (sym c.self.view_is) ∙ sym c.lacks_results.ensures ∙ c.if-lacks_results.false

pub returns-in-Err : goal.returns-in-Err
returns-in-Err c = memory-next c.args.self.now
