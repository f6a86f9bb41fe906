use Rattle.std.proofs.Common.{◌≤◌, length, subst}
use Rattle.golog_semantics.specs.Journal.{longest}
use Rattle.golog_agent.specs.Keeping.{IsUnderWay}
use Rattle.golog_lead.specs.Courses.{Course}
use Rattle.golog_agent.proofs.under_way.Core.keeps_rules.Goals as goal

pub returns-clause-under_way : goal.returns-clause-under_way
returns-clause-under_way c = subst (λ (v : Course). IsUnderWay v.agent v.list) c.self.view_is c.self.invariant.under_way

pub returns-clause-short : goal.returns-clause-short
returns-clause-short c = subst (λ (v : Course). length v.list ≤ longest) c.self.view_is c.len-length.ensures.most
