use Rattle.std.proofs.Common.{[], ◌∷◌}
use Rattle.golog_tree.specs.declared.cond.Cond.TheVariants as cond
use Rattle.golog_fronts.proofs.FrontsGiven.{front_given}
use Rattle.golog_fronts.proofs.front_lists.front_where.Goals as goal

pub returns : goal.returns
returns c =
    let front = c.args.front.now in
    front_given c.both_of-cond.result front.label c.copy_prog-left.result c.in_ok-cond.cond (cond.And (c.args.cond.now ∷ front.cond ∷ [])) c.in_ok-cond.left front.left
    c.both_of-cond.ensures c.copy_prog-left.ensures c.in_ok-cond.ensures.parts.0 c.in_ok-cond.ensures.parts.1
