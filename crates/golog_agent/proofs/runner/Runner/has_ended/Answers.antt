use Rattle.std.proofs.Common.{ap, ◌∙◌}
use Rattle.golog_semantics.specs.Journal.{has_end}
use Rattle.golog_lead.specs.Courses.{Course}
use Rattle.golog_agent.proofs.runner.Runner.has_ended.Goals as goal

pub returns : goal.returns
returns c = c.has_ended.ensures ∙ ap (λ (v : Course). has_end v.list) c.self.view_is
