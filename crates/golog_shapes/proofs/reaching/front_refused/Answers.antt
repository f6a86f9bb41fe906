use Rattle.golog_shapes.proofs.Adding.{added-two}
use Rattle.golog_shapes.proofs.reaching.front_refused.Goals as goal

pub returns : goal.returns
returns c = λ before is.
    added-two c.lesser_where.result before c.reaches_itself-itself.result _ c.is_deep-deep.result _ c.args.at c.reaches_itself-itself.ensures
    c.is_deep-deep.ensures (c.lesser_where.ensures _ (c.lesser_where-least.ensures before is))
