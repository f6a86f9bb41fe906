use Rattle.std.proofs.Common.{[], ◌∷◌, ◌++◌, Some, sym, ap, ◌∙◌}
use Rattle.std.specs.Option.{option_map}
use Rattle.golog_branch.specs.Plans.{branch_to}
use Rattle.golog_branch.proofs.tables.add_branch.Goals as goal

pub returns-in_default : goal.returns-in_default
returns-in_default c =
    ap (option_map (branch_to c.args.jump.now.value)) (sym c.in_ok-tree.ensures ∙ c.in_default.is)

pub returns : goal.returns
returns c =
    ap (λ o. option_map (λ b. c.args.branches.now ++ b ∷ []) (option_map (branch_to c.args.jump.now.value) o)) (sym c.in_ok-tree.ensures ∙ c.in-Some.is)
    ∙ ap Some (sym c.in_ok-push.ensures.ok)
