use Rattle.std.proofs.Common.{false, refl, sym}
use Rattle.golog_tree.specs.declared.prog.Prog.TheOpen.{Follow}
use Rattle.golog_tree.specs.declared.prog.Prog.TheVariants as prog
use Rattle.golog_ways.specs.FirstMove.{first_move}
use Rattle.golog_ways.proofs.Lackings.{must_stops}
use Rattle.golog_ways.proofs.MoveSteps.{move_as, follow_first}
use Rattle.golog_ways.proofs.here.Within.first_of_block.Goals as goal

pub returns-clause-first : goal.returns-clause-first
returns-clause-first g c =
    move_as c.first.result _ (first_move _ _ _ (prog.Follow c.args.depth c.args.fuel c.args.body.now c.args.rest.now)) (sym (follow_first _ _ _ c.args.self.now.here.fit.guarded c.args.depth c.args.fuel c.args.body.now c.args.rest.now)) c.first.ensures.first

pub returns-clause-fuel : goal.returns-clause-fuel
returns-clause-fuel g c =
    must_stops _ _ false c.first.result (prog.Follow c.args.depth c.args.fuel c.args.body.now c.args.rest.now) (Follow c.args.depth c.args.fuel c.args.body.now c.args.rest.now) (prog.outs-Follow c.args.depth c.args.fuel c.args.body.now c.args.rest.now) _ false (λ f. refl) c.first.ensures.fuel
