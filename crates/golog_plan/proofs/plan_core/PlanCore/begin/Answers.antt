use Rattle.std.proofs.Common.{◌∙◌, ap, subst, sym}
use Rattle.golog_branch.specs.declared.following.Kept.{Kept}
use Rattle.golog_branch.specs.Following.{after_step, first_label}
use Rattle.golog_plan.specs.Keeping.{IsFollowed, PlanCourse}
use Rattle.golog_plan.proofs.Decisions.{begun-next, labels-so}
use Rattle.golog_plan.proofs.plan_core.PlanCore.begin.Goals as goal

pub unreachable-requires : goal.unreachable-requires
unreachable-requires c = labels-so c.args.tree.now c.requires.step (sym (c.label_of.ensures ∙ ap first_label c.get.ensures) ∙ c.in_default.is)

pub returns-in-Ok : goal.returns-in-Ok
returns-in-Ok c =
    let core = c.args.self.now in
    let facts = c.facts.ensures ∙ ap (λ (v : PlanCourse). v.agent) c.self.view_is in
    begun-next core (subst IsFollowed c.self.view_is c.self.invariant.followed) c.requires.settled c.args.tree.now c.requires.ahead
    (record { label = c.in-Some.label; kept = c.in-Ok.kept; tail = c.args.tail })
    (sym (c.label_of.ensures ∙ ap first_label c.get.ensures) ∙ c.in-Some.is)
    (λ (before : Kept). c.in-Ok.ensures before ∙ ap (λ a. after_step a before c.args.tree.now) facts) c.requires.tail
