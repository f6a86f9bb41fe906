use Rattle.std.proofs.Common.{◌≡◌, [], ap, subst}
use Rattle.std.specs.Prelude.{IfOk}
use denote.Param.Send.{sendable}
use Rattle.golog_lead.specs.Courses.{Course}
use Rattle.golog_lead.specs.Waiting.{waits}
use Rattle.golog_agent.proofs.Crossing.{runner_send}
use Rattle.golog_team.proofs.Crossing.{agent_sync}
use Rattle.golog_main.proofs.TeamLemmas.{team-reports}
use Rattle.golog_main.proofs.teams.team_reports.Goals as goal

pub run_agents-requires-clause-leads : goal.run_agents-requires-clause-leads
run_agents-requires-clause-leads g c κs within =
    let parts = c.in_ok-one.ensures.parts in
    let one = subst (λ r. IfOk r (λ (v : Course). v ≡ record { agent = c.args.first.now; list = [] })) parts.0 c.new.ensures in
    let other = subst (λ r. IfOk r (λ (v : Course). v ≡ record { agent = c.args.second.now; list = [] })) parts.1 c.new-2.ensures in
    record {
      one_of = ap (λ (v : Course). v.agent) one;
      other_of = ap (λ (v : Course). v.agent) other;
      one_new = ap (λ (v : Course). v.list) one;
      other_new = ap (λ (v : Course). v.list) other;
    }

pub run_agents-requires-send-M : goal.run_agents-requires-send-M
run_agents-requires-send-M g c κs within = search (runner_send agent_sync, sendable) depth 20 fits 100000

pub returns : goal.returns
returns g c =
    let parts = c.in_ok-one.ensures.parts in
    let one = subst (λ r. IfOk r (λ (v : Course). v ≡ record { agent = c.args.first.now; list = [] })) parts.0 c.new.ensures in
    let other = subst (λ r. IfOk r (λ (v : Course). v ≡ record { agent = c.args.second.now; list = [] })) parts.1 c.new-2.ensures in
    team-reports c.args.first.now c.args.second.now c.args.inline c.goes_beside-beside.result c.goes_beside-beside.ensures c.report-report.result c.report-their_report.result _ _ _ _ c.requires.formed
    (c.requires.matched.0.shape, c.requires.matched.1.shape) (ap (λ (v : Course). v.agent) one) (ap (λ (v : Course). v.agent) other)
    (ap (λ (v : Course). waits v.agent) one) (ap (λ (v : Course). waits v.agent) other) c.in_ok-led.ensures.played
    (c.report-report.ensures.entries, c.report-report.ensures.online) (c.report-their_report.ensures.entries, c.report-their_report.ensures.online)
