use Rattle.std.proofs.Common.{sym, ap, subst, ◌∙◌}
use Rattle.golog_semantics.specs.WellFormed.{WellFormed}
use Rattle.golog_lead.specs.Courses.{Course}
use Rattle.golog_agent.specs.Configuration.{Configuration}
use Rattle.golog_agent.proofs.under_way.CoreUnderWay.agent.Goals as goal

pub returns-clause-agent : goal.returns-clause-agent
returns-clause-agent c =
    c.agent.ensures ∙ ap (λ (k : Configuration). k.agent) c.self.invariant.known_so ∙ ap (λ (v : Course). v.agent) c.self.view_is

pub returns-clause-formed : goal.returns-clause-formed
returns-clause-formed c =
    subst WellFormed (sym (c.agent.ensures ∙ ap (λ (k : Configuration). k.agent) c.self.invariant.known_so)) c.self.invariant.under_way.formed
