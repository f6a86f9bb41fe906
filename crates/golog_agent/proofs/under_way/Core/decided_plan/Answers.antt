use Rattle.std.proofs.Common.{◌≡◌, true, false, ap, sym, ◌∙◌, subst}
use Rattle.golog_semantics.specs.declared.Mode.TheVariants.{Must}
use Rattle.golog_semantics.specs.Answer.{is_unanswered}
use Rattle.golog_semantics.specs.Blocks.{moves}
use Rattle.golog_semantics.specs.Journal.{is_full, is_quiet, is_settled, may_be_answered}
use Rattle.golog_semantics.specs.Progress.{values_after, left_after}
use Rattle.golog_semantics.specs.Search.{final}
use Rattle.golog_semantics.specs.Ways.{is_empty}
use Rattle.golog_search.specs.Decided.{IsAhead}
use Rattle.golog_agent.specs.Planned.{PlanIs}
use Rattle.golog_lead.specs.Courses.{Course}
use Rattle.golog_agent.proofs.Planning.{ahead-plan, blocked-waits, none-ahead}
use Rattle.golog_agent.proofs.under_way.Core.decided_plan.Goals as goal

pub returns-in-Ok-Some-clause-plan : goal.returns-in-Ok-Some-clause-plan
returns-in-Ok-Some-clause-plan g c =
    let now = c.args.self.now in
    subst (PlanIs now.agent now.list) (sym c.planned.ensures)
    (ahead-plan now.agent now.list c.keeps_rules.ensures.under_way c.requires.room c.requires.answered c.requires.settled c.may_be_answered.result
    (ap (λ (v : Course). may_be_answered v.agent v.list) (sym c.ahead.ensures.same) ∙ sym c.may_be_answered.ensures) c.in-Ok-Some.decision
    (subst (IsAhead now.agent (values_after now.agent now.list) (left_after now.agent now.list) true) c.in-Ok-Some.field-0-is c.in-Ok-Some.ensures.ahead))

pub blocked_plan-requires-clause-settled : goal.blocked_plan-requires-clause-settled
blocked_plan-requires-clause-settled g c = subst (λ (v : Course). is_settled v.agent v.list ≡ true) (sym c.ahead.ensures.same) c.requires.settled

pub blocked_plan-requires-clause-answered : goal.blocked_plan-requires-clause-answered
blocked_plan-requires-clause-answered g c = subst (λ (v : Course). is_unanswered v.agent v.list ≡ false) (sym c.ahead.ensures.same) c.requires.answered

pub blocked_plan-requires-clause-room : goal.blocked_plan-requires-clause-room
blocked_plan-requires-clause-room g c = subst (λ (v : Course). is_full v.list ≡ false) (sym c.ahead.ensures.same) c.requires.room

pub blocked_plan-requires-clause-quiet : goal.blocked_plan-requires-clause-quiet
blocked_plan-requires-clause-quiet g c = sym c.is_quiet.ensures ∙ c.if-is_quiet.true

pub blocked_plan-requires-clause-unended : goal.blocked_plan-requires-clause-unended
blocked_plan-requires-clause-unended g c =
    let now = c.args.self.now in
    subst (λ (v : Course). final v.agent (values_after v.agent v.list) Must (left_after v.agent v.list) ≡ false) (sym c.ahead.ensures.same)
    (none-ahead now.agent now.list
    (subst (IsAhead now.agent (values_after now.agent now.list) (left_after now.agent now.list) true) c.in-Ok-None.field-0-is c.in-Ok-None.ensures.ahead)).0

pub blocked_plan-requires-clause-stepless : goal.blocked_plan-requires-clause-stepless
blocked_plan-requires-clause-stepless g c =
    let now = c.args.self.now in
    subst (λ (v : Course). is_empty (moves v.agent (values_after v.agent v.list) Must (left_after v.agent v.list)) ≡ true) (sym c.ahead.ensures.same)
    (ap is_empty
    (none-ahead now.agent now.list
    (subst (IsAhead now.agent (values_after now.agent now.list) (left_after now.agent now.list) true) c.in-Ok-None.field-0-is c.in-Ok-None.ensures.ahead)).1)

pub returns-in-Ok-None-clause-plan : goal.returns-in-Ok-None-clause-plan
returns-in-Ok-None-clause-plan g c = subst (λ (v : Course). PlanIs v.agent v.list c.blocked_plan.result) c.ahead.ensures.same c.blocked_plan.ensures

pub returns-in-Ok-None-2-clause-plan : goal.returns-in-Ok-None-2-clause-plan
returns-in-Ok-None-2-clause-plan g c =
    let now = c.args.self.now in
    blocked-waits now.agent now.list c.keeps_rules.ensures.under_way c.requires.room c.requires.answered c.requires.settled
    (subst (IsAhead now.agent (values_after now.agent now.list) (left_after now.agent now.list) true) c.in-Ok-None.field-0-is c.in-Ok-None.ensures.ahead)
    (ap (λ (v : Course). is_quiet v.agent v.list) (sym c.ahead.ensures.same) ∙ sym c.is_quiet.ensures ∙ c.if-is_quiet.false)
