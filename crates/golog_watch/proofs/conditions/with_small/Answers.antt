use Rattle.std.proofs.Common.{◌≤◌, ◌<◌, ◌∷◌, [], ◌++◌, arith}
use Rattle.std.proofs.lemmas.Bool.{cond_above, cond_below}
use Rattle.golog_regress.specs.Size.{nodes}
use Rattle.golog_watch.specs.Watched.{most_nodes}
use Rattle.golog_watch.proofs.conditions.with_small.Goals as goal

pub returns-then-nodes-gt-NODES : goal.returns-then-nodes-gt-NODES
returns-then-nodes-gt-NODES c =
    let more : most_nodes < nodes c.args.cond = omega (arith, c.nodes.ensures) in
    cond_below most_nodes (nodes c.args.cond) c.args.conds (c.args.conds ++ c.args.cond ∷ []) more

pub returns-in_ok-push : goal.returns-in_ok-push
returns-in_ok-push c =
    let few : nodes c.args.cond ≤ most_nodes = omega (arith, c.nodes.ensures) in
    cond_above most_nodes (nodes c.args.cond) c.args.conds (c.args.conds ++ c.args.cond ∷ []) _ few c.in_ok-push.ensures.ok
