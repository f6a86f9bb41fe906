use Rattle.golog_fronts.specs.Context.{placed}
use Rattle.golog_fronts.proofs.FrontsGiven.{front_given}
use Rattle.golog_fronts.proofs.front_lists.front_at.Goals as goal

pub returns : goal.returns
returns c =
    let front = c.args.front.now in
    front_given c.copy_cond-cond.result front.label c.copy_at-left.result c.in_ok-cond.cond front.cond c.in_ok-cond.left (placed c.args.place front.left c.args.other.now)
    c.copy_cond-cond.ensures c.copy_at-left.ensures c.in_ok-cond.ensures.parts.0 c.in_ok-cond.ensures.parts.1
