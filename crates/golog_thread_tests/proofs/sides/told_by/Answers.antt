use denote.Param.Send.{sendable}
use Rattle.std.proofs.Common.{rules, ◌≡◌, [], ap, sym, ◌∙◌, subst}
use Rattle.std.specs.Prelude.{IfOk}
use Rattle.golog_lead.specs.Courses.{Course}
use Rattle.golog_agent.proofs.Crossing.{runner_send}
use Rattle.golog_team.proofs.Crossing.{agent_sync}
use Rattle.golog_thread_tests.proofs.sides.told_by.Goals as goal

pub told_of-requires-clause-leads : goal.told_of-requires-clause-leads
told_of-requires-clause-leads g c κs within =
    let parts = c.in_ok-one.ensures.parts in
    let one = subst (λ r. IfOk r (λ (v : Course). v ≡ record { agent = c.args.agent.now; list = [] })) parts.0 c.new.ensures in
    let other = subst (λ r. IfOk r (λ (v : Course). v ≡ record { agent = c.args.agent.now; list = [] })) parts.1 c.new-2.ensures in
    record {
      one_of = ap (λ (v : Course). v.agent) one;
      other_of = ap (λ (v : Course). v.agent) other;
      one_new = ap (λ (v : Course). v.list) one;
      other_new = ap (λ (v : Course). v.list) other;
    }

pub told_of-requires-send-M : goal.told_of-requires-send-M
told_of-requires-send-M g c κs within = search (runner_send agent_sync, sendable) depth 20 fits 100000

pub told_of-requires-clause-matched : goal.told_of-requires-clause-matched
told_of-requires-clause-matched g c κs within =
    let told = c.in_ok-team_refusal.ensures in
    let none = sym c.is_some.ensures ∙ c.if-is_some.false in
    (c.unrefused_match.ensures c.args.agent.now c.args.agent.now (search rules)).0
