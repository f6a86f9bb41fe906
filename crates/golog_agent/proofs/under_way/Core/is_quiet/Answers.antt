use Rattle.std.proofs.Common.{ap, ◌∙◌}
use Rattle.golog_semantics.specs.Journal.{is_quiet}
use Rattle.golog_lead.specs.Courses.{Course}
use Rattle.golog_agent.proofs.under_way.Core.is_quiet.Goals as goal

pub returns : goal.returns
returns c = c.is_quiet.ensures ∙ ap (λ (v : Course). is_quiet v.agent v.list) c.self.view_is
