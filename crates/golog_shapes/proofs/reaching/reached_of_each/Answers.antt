use Rattle.std.proofs.Common.{[], ◌∷◌, ◌++◌, List, Bool, map, take, sym, ap, ◌∙◌, ℕ, arith}
use Rattle.std.specs.List.{enumerate_from}
use Rattle.golog_shapes.specs.declared.fronts.Nesting.{Nesting}
use Rattle.golog_shapes.specs.Told.{reached_by}
use Rattle.golog_shapes.proofs.Reached.{numbered-more}
use Rattle.golog_shapes.proofs.reaching.reached_of_each.Goals as goal

pub loop-goal-preserved : goal.loop-goal-preserved
loop-goal-preserved c =
    let items = c.args.items.now in
    let i = c.loop-goal.goal in
    c.in_ok-push.ensures.ok ∙ ap (λ rs. rs ++ c.in_ok-said.said ∷ []) c.loop-goal.invariant
    ∙ ap (λ (r : List Bool). map (λ (at : ℕ × Nesting). reached_by items at.0) (enumerate_from 0 (take i items)) ++ r ∷ []) c.in_ok-said.ensures
    ∙ sym (numbered-more (reached_by items) items i (omega arith))
