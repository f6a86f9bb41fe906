use Rattle.std.proofs.Common.{◌≤◌, sym, ap, ◌∙◌, subst}
use Rattle.std.specs.Prelude.{IfSome, unwrap_or}
use Rattle.golog_tree.specs.Nest.{nest}
use Rattle.golog_semantics.specs.Progress.{left_after}
use Rattle.golog_semantics.specs.Search.{nest_limit}
use Rattle.golog_lead.specs.Courses.{Course}
use Rattle.golog_agent.proofs.Stepping.{left-nests}
use Rattle.golog_agent.proofs.driver.Driver.take.Goals as goal

pub keep-requires-clause-run : goal.keep-requires-clause-run
keep-requires-clause-run g c = c.parts_of-left.ensures.run ∙ c.requires.run

pub take-requires-clause-left : goal.take-requires-clause-left
take-requires-clause-left g c =
    c.requires.left ∙ ap (λ left. unwrap_or left (left_after c.args.self.now.core.agent c.args.self.now.core.list)) (sym c.parts_of-left.ensures.left)

pub take-requires-clause-nests : goal.take-requires-clause-nests
take-requires-clause-nests g c =
    subst (λ left. IfSome left (λ prog. nest prog ≤ nest_limit)) (sym c.parts_of-left.ensures.left)
    (left-nests c.args.self.now.core.agent c.args.self.now.core.list c.args.step c.requires.next)

pub returns-clause-recorded : goal.returns-clause-recorded
returns-clause-recorded g c = record {
  same_outlet = c.keep.ensures.outlet;
  stands_still = λ stood.
      subst (λ (v : Course). g.R.Record.stands v.agent v.list c.keep.new.self) (sym c.take.ensures) (c.keep.ensures.stands stood);
}
