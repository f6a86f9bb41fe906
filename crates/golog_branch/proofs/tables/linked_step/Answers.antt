use Rattle.std.proofs.Common.{◌≡◌, List, Option, IfOk, map, ap, ◌∙◌, subst}
use Rattle.golog_branch.specs.declared.spot.Jump.{Jump}
use Rattle.golog_branch.specs.declared.tree.Branch.{Branch}
use Rattle.golog_branch.specs.declared.tree.Tree.{Tree}
use Rattle.golog_branch.specs.Levels.{branch_in, step_with}
use Rattle.golog_branch.specs.Plans.{all_some}
use Rattle.golog_branch.proofs.tables.linked_step.Goals as goal

pub returns : goal.returns
returns c =
    subst (λ (o : Option (List Branch)). IfOk c.step_of.result (λ (plan : Option Tree). plan ≡ step_with c.args.link.now.way o))
    (c.in_ok-next.ensures ∙ ap (λ (js : List Jump). all_some (map (branch_in c.args.table.now) js)) c.as_slice.ensures) c.step_of.ensures
