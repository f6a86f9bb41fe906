use Rattle.std.proofs.Common.{◌<◌, length, sym, ap, ◌∙◌, subst}
use Rattle.golog_semantics.specs.Journal.{is_open}
use Rattle.golog_lead.specs.Courses.{Course}
use Rattle.golog_agent.proofs.runner.Runner.is_open.Goals as goal

pub is_open-requires : goal.is_open-requires
is_open-requires c = subst (λ (v : Course). c.args.device < length v.agent.devices) (sym c.self.view_is) c.requires

pub returns : goal.returns
returns c = c.is_open.ensures ∙ ap (λ (v : Course). is_open c.args.device v.list) c.self.view_is
