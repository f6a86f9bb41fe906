use Rattle.std.proofs.Common.{ap, ◌∙◌}
use Rattle.golog_semantics.specs.Journal.{may_be_answered}
use Rattle.golog_lead.specs.Courses.{Course}
use Rattle.golog_agent.proofs.under_way.Core.may_be_answered.Goals as goal

pub returns : goal.returns
returns c = c.may_be_answered.ensures ∙ ap (λ (v : Course). may_be_answered v.agent v.list) c.self.view_is
