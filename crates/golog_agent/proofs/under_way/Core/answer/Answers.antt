use Rattle.std.proofs.Common.{subst}
use Rattle.golog_lead.specs.Keeping.{EndsBy}
use Rattle.golog_lead.specs.Courses.{Course}
use Rattle.golog_agent.proofs.under_way.Core.answer.Goals as goal

pub returns : goal.returns
returns c = subst (λ (v : Course). EndsBy v.list c.self.inside.ended) c.self.view_is c.self.invariant.ends
