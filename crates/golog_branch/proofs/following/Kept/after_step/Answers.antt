use Rattle.std.proofs.Common.{◌≡◌, false, true, List, Option, IfOk, sym, ap, ◌∙◌, subst}
use Rattle.golog_tree.specs.declared.prog.Prog.{Prog}
use Rattle.golog_branch.specs.declared.following.Kept.{Kept}
use Rattle.golog_branch.specs.declared.tree.Branch.{Branch}
use Rattle.golog_branch.specs.declared.tree.Tree.{Tree}
use Rattle.golog_branch.specs.Following.{plan_behind}
use Rattle.golog_branch.proofs.KeptPlans.{begins-not, step-kept}
use Rattle.golog_branch.proofs.following.Kept.after_step.Goals as goal

abbrev of-parts : Prog → Option Tree → Kept
of-parts left plan = record { left = left; plan = plan }

pub unreachable-requires : goal.unreachable-requires
unreachable-requires c =
    let none : false ≡ true = sym (begins-not c.args.tree.now (sym c.get.ensures ∙ c.in-Done.is)) ∙ c.requires.step in
    cc

pub returns : goal.returns
returns c = λ (before : Kept).
    let facts = c.args.facts.now in
    let tree = c.args.tree.now in
    let label = c.in-Step.label in
    let parts = c.in_ok-left-in-Step.ensures.parts in
    let left : c.in_ok-left-in-Step.left ≡ c.in-Step.left = subst (λ r. IfOk r (λ (p : Prog). p ≡ c.in-Step.left)) parts.0 c.copy_prog.ensures in
    let plan : c.in_ok-left-in-Step.plan ≡ plan_behind facts tree label c.in-Step.next =
    subst (λ r. IfOk r (λ (p : Option Tree). p ≡ plan_behind facts tree label c.as_slice.result.now)) parts.1 c.plan_behind-behind.ensures
    ∙ ap (λ (next : List Branch). plan_behind facts tree label next) c.as_slice.ensures in
    (λ i. of-parts (left i) (plan i))
    ∙ sym (step-kept facts tree label c.in-Step.left c.in-Step.next (sym c.get.ensures ∙ c.in-Step.is) before)
