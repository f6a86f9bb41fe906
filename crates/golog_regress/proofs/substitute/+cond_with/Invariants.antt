use Rattle.std.proofs.Common.{◌≡◌, map, take}
use Rattle.golog_regress.specs.Images.{cond_image}
use Rattle.golog_regress.proofs.substitute.+cond_with.Given as goal

abbrev pub invariant-conds_with-loop-cond : goal.invariant-conds_with-loop-cond
invariant-conds_with-loop-cond l = l.list ≡ map (λ c. cond_image c l.images) (take l.cond-index l.conds)
