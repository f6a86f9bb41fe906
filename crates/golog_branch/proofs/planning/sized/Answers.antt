use Rattle.std.proofs.Common.{◌<◌, ◌≤◌, if◌then◌else◌, sym, ap, arith}
use Rattle.std.proofs.lemmas.Bool.{le-ltb, lt-ltb}
use Rattle.golog_branch.specs.declared.tree.Planned.TheVariants.{Found, Large}
use Rattle.golog_branch.specs.Trees.{steps}
use Rattle.golog_branch.proofs.planning.sized.Goals as goal

pub returns-then-count-gt-MOST_STEPS : goal.returns-then-count-gt-MOST_STEPS
returns-then-count-gt-MOST_STEPS c =
    let plan = c.args.plan in
    let count = c.steps_within-count.ensures in
    let tree = ap steps c.get.ensures in
    let many : 10000 < steps plan = omega arith in
    sym (ap (λ b. if b then Large else Found plan) (lt-ltb 10000 (steps plan) many))

pub returns : goal.returns
returns c =
    let plan = c.args.plan in
    let count = c.steps_within-count.ensures in
    let tree = ap steps c.get.ensures in
    let few : steps plan ≤ 10000 = omega arith in
    sym (ap (λ b. if b then Large else Found plan) (le-ltb 10000 (steps plan) few))
