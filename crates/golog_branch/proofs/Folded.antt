-- What a fold makes of a plan, by what it makes of its branches.
use Rattle.std.proofs.Common.{◌≡◌, List, [], ◌∷◌, map, refl, sym, ap, ◌∙◌}
use Rattle.golog_tree.specs.declared.prog.Label.{Label}
use Rattle.golog_tree.specs.declared.prog.Prog.{Prog}
use Rattle.golog_branch.specs.declared.tree.Branch.{Branch, rolls-Branch'}
use Rattle.golog_branch.specs.declared.tree.Tree.{Tree}
use Rattle.golog_branch.specs.declared.tree.Tree.TheVariants as tree
use Rattle.golog_branch.specs.declared.tree.Tree.TheOpen.{Tree-F, Branch-F, Done, Step}
use Rattle.golog_branch.specs.declared.tree.Tree.TheFolds.{fold-Branch, fold-Tree, fold-roll-Branch, fold-roll-Tree}

module _ (A B : Type 0) (step : Tree-F A B → A) (branch : Branch-F A B → B) where
  abbrev of : Tree → A
  of = fold-Tree A B step branch

  -- what it makes of a branch
  abbrev pub of-branch : Branch → B
  of-branch b = branch (record { value = b.value; tree = of b.tree })

  each-branch : (b : Branch) → fold-Branch A B step branch b ≡ of-branch b
  each-branch b =
      let layer : Branch-F Tree Branch = record { value = b.value; tree = b.tree } in
      ap (fold-Branch A B step branch) (sym (rolls-Branch' layer)) ∙ fold-roll-Branch A B step branch layer

  each-branches : (next : List Branch) → map (fold-Branch A B step branch) next ≡ map of-branch next
  each-branches [] = refl
  each-branches (b ∷ next) = let one = each-branch b in let rest = each-branches next in (λ i. one i ∷ rest i)

  pub fold-done : of tree.Done ≡ step Done
  fold-done = ap of (sym tree.rolls-Done) ∙ fold-roll-Tree A B step branch Done

  pub fold-step : (label : Label) (left : Prog) (next : List Branch) → of (tree.Step label left next) ≡ step (Step label left (map of-branch next))
  fold-step label left next =
      ap of (sym (tree.rolls-Step label left next)) ∙ fold-roll-Tree A B step branch (Step label left next)
      ∙ ap (λ (bs : List B). step (Step label left bs)) (each-branches next)
