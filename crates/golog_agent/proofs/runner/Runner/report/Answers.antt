use Rattle.std.proofs.Common.{sym, ◌∙◌, subst}
use Rattle.golog_semantics.specs.Online.{IsOnlineSoFar}
use Rattle.golog_lead.specs.Recording.{IsKept}
use Rattle.golog_lead.specs.Courses.{Course}
use Rattle.golog_lead.proofs.Recorded.{reported}
use Rattle.golog_agent.proofs.runner.Runner.report.Goals as goal

pub returns-clause-entries : goal.returns-clause-entries
returns-clause-entries c =
    let r = c.self.inside.driver in
    c.into_report.ensures
    ∙ reported c.args.self.agent c.args.self.list r.record.entries r.record.runs
    (subst (λ (v : Course). IsKept v.agent v.list r.record.entries r.record.runs) c.self.view_is c.self.invariant)

pub returns-clause-online : goal.returns-clause-online
returns-clause-online c = subst (IsOnlineSoFar c.args.self.agent) (sym (returns-clause-entries c)) c.keeps_rules.ensures.under_way.online
