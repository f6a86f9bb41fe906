use Rattle.std.proofs.Common.{◌≡◌, ◌==◌, List, Option, IfOk, find, sym, ap, ◌∙◌, subst}
use Rattle.golog_branch.specs.declared.tree.Branch.{Branch}
use Rattle.golog_branch.specs.declared.tree.Tree.{Tree}
use Rattle.golog_branch.specs.Following.{plan_of}
use Rattle.golog_branch.proofs.KeptPlans.{plan-not, plan-of-step}
use Rattle.golog_branch.proofs.following.plan_for.Goals as goal

pub returns-in-Done : goal.returns-in-Done
returns-in-Done c = sym (plan-not c.args.value c.args.tree.now c.in-Done.is)

pub returns-in-Step : goal.returns-in-Step
returns-in-Step c =
    let test = λ (b : Branch). b.value == c.args.value in
    subst (λ (o : Option Tree). IfOk c.plan_with.result (λ (plan : Option Tree). plan ≡ o))
    (ap (λ (next : List Branch). plan_of (find test next)) c.as_slice.ensures
    ∙ sym (plan-of-step c.args.value c.args.tree.now c.in-Step.label c.in-Step.left c.in-Step.next c.in-Step.is))
    c.plan_with.ensures
