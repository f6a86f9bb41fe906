use Rattle.std.proofs.Common.{ap, ◌∙◌}
use Rattle.golog_semantics.specs.Journal.{lacks_results}
use Rattle.golog_lead.specs.Courses.{Course}
use Rattle.golog_agent.proofs.under_way.Core.lacks_results.Goals as goal

pub returns : goal.returns
returns c = c.lacks_results.ensures ∙ ap (λ (v : Course). lacks_results v.agent v.list) c.self.view_is
