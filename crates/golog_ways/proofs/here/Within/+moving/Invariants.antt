use Rattle.std.proofs.Common.{◌≡◌, ◌+◌, ◌*◌}
use Rattle.golog_tree.specs.declared.prog.Prog.TheVariants as prog
use Rattle.golog_semantics.specs.Guarded.{front}
use Rattle.golog_ways.specs.FirstMove.{first_move}
use Rattle.golog_ways.proofs.MoveSteps.{rest_moves}
use Rattle.golog_ways.proofs.here.Within.+moving.Given as goal

abbrev pub decreases-first_move : goal.decreases-first_move
decreases-first_move g l = 1 + 3 * (front l.self.now.here.agent.now l.prog.now).height

abbrev pub decreases-first_of_seq : goal.decreases-first_of_seq
decreases-first_of_seq g l = 3 * (front l.self.now.here.agent.now (prog.Seq l.one.now l.other.now)).height

abbrev pub decreases-first_of_choice : goal.decreases-first_of_choice
decreases-first_of_choice g l = 3 * (front l.self.now.here.agent.now (prog.Choice l.one.now l.other.now)).height

abbrev pub decreases-first_of_conc : goal.decreases-first_of_conc
decreases-first_of_conc g l = 3 * (front l.self.now.here.agent.now (prog.Conc l.one.now l.other.now)).height

abbrev pub decreases-first_of_prio : goal.decreases-first_of_prio
decreases-first_of_prio g l = 3 * (front l.self.now.here.agent.now (prog.Prio l.high.now l.low.now)).height

abbrev pub decreases-first_of : goal.decreases-first_of
decreases-first_of g l = 2 + 3 * (front l.self.now.here.agent.now l.prog).height

abbrev pub decreases-first_of_if : goal.decreases-first_of_if
decreases-first_of_if g l = 3 * (front l.self.now.here.agent.now (prog.If l.cond.now l.yes.now l.no.now)).height

abbrev pub decreases-first_of_pick : goal.decreases-first_of_pick
decreases-first_of_pick g l = 3 * (front l.self.now.here.agent.now (prog.Pick l.var l.sort l.body.now)).height

abbrev pub decreases-first_of_call : goal.decreases-first_of_call
decreases-first_of_call g l = 3 * (front l.self.now.here.agent.now (prog.Call l.item l.args.now)).height

-- the constants still to be tried decide
abbrev pub invariant-first_of_pick-loop-constant : goal.invariant-first_of_pick-loop-constant
invariant-first_of_pick-loop-constant g l =
    let told = g.B.Blocks.moves l.self.blocks.now l.self.here.agent.now l.self.here.values.now in
    first_move l.self.here.agent.now told l.self.here.values.now (prog.Pick l.var l.sort l.body) ≡ rest_moves l.self.here.agent.now told l.self.here.values.now l.var l.sort l.body l.constant
