use Rattle.std.proofs.Common.{true, refl}
use Rattle.golog_tree.specs.declared.prog.Prog.TheOpen.{Follow}
use Rattle.golog_tree.specs.declared.prog.Prog.TheVariants as prog
use Rattle.golog_ways.proofs.Lackings.{block_stops}
use Rattle.golog_ways.proofs.ReachSteps.{follow_gives}
use Rattle.golog_ways.proofs.here.Within.reach_of_block.Goals as goal

pub returns-clause-reach : goal.returns-clause-reach
returns-clause-reach g c =
    let block = prog.Follow c.args.depth c.args.fuel c.args.body.now c.args.rest.now in
    follow_gives _ _ _ c.args.self.now.here.fit.guarded c.reach.result block c.args.body.now c.args.depth c.args.fuel c.args.rest.now refl c.reach.ensures.reach

pub returns-clause-fuel : goal.returns-clause-fuel
returns-clause-fuel g c =
    block_stops _ _ true c.reach.result (prog.Follow c.args.depth c.args.fuel c.args.body.now c.args.rest.now) (Follow c.args.depth c.args.fuel c.args.body.now c.args.rest.now) (prog.outs-Follow c.args.depth c.args.fuel c.args.body.now c.args.rest.now) _ (λ f. refl) c.reach.ensures.fuel
