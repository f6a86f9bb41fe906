use Rattle.std.proofs.Common.{sym, ◌∙◌}
use Rattle.golog_tree.specs.declared.agent.Agent.{Agent}
use Rattle.golog_semantics.specs.declared.journal.Answer.TheVariants as answer
use Rattle.golog_agent.specs.declared.plan.Plan.TheVariants as plan
use Rattle.golog_agent.proofs.Planning.{answered-seen, as-seen, full-plan, one-awaited, settled-seen, shut-plan, wait-plan}
use Rattle.golog_agent.proofs.under_way.Core.plan.Goals as goal

pub is_open-requires : goal.is_open-requires
is_open-requires g c =
    let r = c.self.inside in
    (one-awaited r.counts.agent r.counts.entries r.held c.self.invariant.awaits c.in-Some.command c.in-Some.is).is_device

pub returns-then-is_full-clause-plan : goal.returns-then-is_full-clause-plan
returns-then-is_full-clause-plan g c =
    let r = c.self.inside in
    as-seen r.counts.agent r.counts.entries c.args.self.now c.self.view_is (plan.End answer.Full)
    (full-plan r.counts.agent r.counts.entries (sym c.is_full.ensures ∙ c.if-is_full.true))

pub decided_plan-requires-clause-settled : goal.decided_plan-requires-clause-settled
decided_plan-requires-clause-settled g c =
    let r = c.self.inside in
    settled-seen r.counts.agent r.counts.entries c.args.self.now c.self.view_is r.held c.self.invariant.awaits c.in-None.is

pub decided_plan-requires-clause-answered : goal.decided_plan-requires-clause-answered
decided_plan-requires-clause-answered g c =
    let r = c.self.inside in
    answered-seen r.counts.agent r.counts.entries c.args.self.now c.self.view_is r.held c.self.invariant.awaits c.in-None.is

pub returns-in-Some-clause-plan : goal.returns-in-Some-clause-plan
returns-in-Some-clause-plan g c =
    let r = c.self.inside in
    as-seen r.counts.agent r.counts.entries c.args.self.now c.self.view_is plan.Wait
    (wait-plan r.counts.agent r.counts.entries r.held c.self.invariant.awaits c.in-Some.command c.self.invariant.under_way.lawful
    (sym c.is_full.ensures ∙ c.if-is_full.false) c.in-Some.is (sym c.is_open.ensures ∙ c.if-is_open.true))

pub returns-in-Some-2-clause-plan : goal.returns-in-Some-2-clause-plan
returns-in-Some-2-clause-plan g c =
    let r = c.self.inside in
    as-seen r.counts.agent r.counts.entries c.args.self.now c.self.view_is (plan.End answer.Unanswered)
    (shut-plan r.counts.agent r.counts.entries r.held c.self.invariant.awaits c.in-Some.command (sym c.is_full.ensures ∙ c.if-is_full.false) c.in-Some.is
    (sym c.is_open.ensures ∙ c.if-is_open.false))
