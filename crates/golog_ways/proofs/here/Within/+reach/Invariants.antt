use Rattle.std.proofs.Common.{◌+◌, ◌*◌, max}
use Rattle.golog_tree.specs.declared.prog.Prog.TheVariants as prog
use Rattle.golog_semantics.specs.Guarded.{front}
use Rattle.golog_ways.proofs.ReachSteps.{SomeReach}
use Rattle.golog_ways.proofs.here.Within.+reach.Given as goal

abbrev pub decreases-reach_of : goal.decreases-reach_of
decreases-reach_of g l = 1 + 3 * (front l.self.now.here.agent.now l.prog.now).height

abbrev pub decreases-reach_of_either : goal.decreases-reach_of_either
decreases-reach_of_either g l = 3 + 3 * max (front l.self.now.here.agent.now l.one.now).height (front l.self.now.here.agent.now l.other.now).height

abbrev pub decreases-reach_of_seq : goal.decreases-reach_of_seq
decreases-reach_of_seq g l = 3 * (front l.self.now.here.agent.now (prog.Seq l.one.now l.other.now)).height

abbrev pub decreases-reach_of_prio : goal.decreases-reach_of_prio
decreases-reach_of_prio g l = 3 * (front l.self.now.here.agent.now (prog.Prio l.high.now l.low.now)).height

abbrev pub decreases-reach_or : goal.decreases-reach_or
decreases-reach_or g l = 2 + 3 * (front l.self.now.here.agent.now l.prog.now).height

abbrev pub decreases-reach_of_put : goal.decreases-reach_of_put
decreases-reach_of_put g l = 2 + 3 * (front l.self.now.here.agent.now l.prog).height

abbrev pub decreases-reach_of_if : goal.decreases-reach_of_if
decreases-reach_of_if g l = 3 * (front l.self.now.here.agent.now (prog.If l.cond.now l.yes.now l.no.now)).height

abbrev pub decreases-reach_of_while : goal.decreases-reach_of_while
decreases-reach_of_while g l = 3 * (front l.self.now.here.agent.now (prog.While l.cond.now l.body.now)).height

abbrev pub decreases-reach_of_pick : goal.decreases-reach_of_pick
decreases-reach_of_pick g l = 3 * (front l.self.now.here.agent.now (prog.Pick l.var l.sort l.body.now)).height

abbrev pub decreases-reach_of_call : goal.decreases-reach_of_call
decreases-reach_of_call g l = 3 * (front l.self.now.here.agent.now (prog.Call l.item l.args.now)).height

abbrev pub invariant-reach_of_pick-loop-constant : goal.invariant-reach_of_pick-loop-constant
invariant-reach_of_pick-loop-constant g l =
    SomeReach l.self.here.agent.now (g.B.Blocks.moves l.self.blocks.now l.self.here.agent.now l.self.here.values.now) l.self.here.values.now l.var l.sort l.body l.constant l.some
