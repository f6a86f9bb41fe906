use Rattle.std.proofs.Common.{◌≡◌, ◌+◌, ℕ, List, [], ◌∷◌, map, refl, sym, ap, ◌∙◌, arith}
use Rattle.std.specs.List.{sum}
use Rattle.golog_tree.specs.declared.prog.Label.{Label}
use Rattle.golog_tree.specs.declared.prog.Prog.{Prog}
use Rattle.golog_branch.specs.declared.tree.Branch.{Branch, rolls-Branch'}
use Rattle.golog_branch.specs.declared.tree.Tree.{Tree}
use Rattle.golog_branch.specs.declared.tree.Tree.TheVariants as tree
use Rattle.golog_branch.specs.declared.tree.Tree.TheOpen.{Branch-F, Step}
use Rattle.golog_branch.specs.declared.tree.Tree.TheFolds.{fold-Branch, fold-roll-Branch, fold-roll-Tree}
use Rattle.golog_branch.specs.Trees.{steps, steps_step}
use Rattle.golog_branch.proofs.counting.+steps.Goals as goal

branch-steps : (b : Branch) → fold-Branch ℕ ℕ steps_step (λ x. x.tree) b ≡ steps b.tree
branch-steps b =
    let layer : Branch-F Tree Branch = record { value = b.value; tree = b.tree } in
    ap (fold-Branch ℕ ℕ steps_step (λ x. x.tree)) (sym (rolls-Branch' layer)) ∙ fold-roll-Branch ℕ ℕ steps_step (λ x. x.tree) layer

branches-steps : (next : List Branch) → map (fold-Branch ℕ ℕ steps_step (λ x. x.tree)) next ≡ map (λ (b : Branch). steps b.tree) next
branches-steps [] = refl
branches-steps (b ∷ next) = let one = branch-steps b in let rest = branches-steps next in (λ i. one i ∷ rest i)

step-steps : (label : Label) (left : Prog) (next : List Branch) → steps (tree.Step label left next) ≡ 1 + sum (map (λ (b : Branch). steps b.tree) next)
step-steps label left next =
    ap steps (sym (tree.rolls-Step label left next)) ∙ fold-roll-Tree ℕ ℕ steps_step (λ x. x.tree) (Step label left next)
    ∙ ap (λ ns. 1 + sum ns) (branches-steps next)

pub steps_within-returns-else-most-eq0 : goal.steps_within-returns-else-most-eq0
steps_within-returns-else-most-eq0 t c =
    let behind = c.steps_behind.ensures in
    let all : steps c.args.tree.now ≡ 1 + sum (map (λ (b : Branch). steps b.tree) c.as_slice.result.now) =
    ap steps c.in-Step.is ∙ step-steps c.in-Step.label c.in-Step.left c.in-Step.next ∙ ap (λ (next : List Branch). 1 + sum (map (λ (b : Branch). steps b.tree) next)) (sym c.as_slice.ensures) in
    omega arith
