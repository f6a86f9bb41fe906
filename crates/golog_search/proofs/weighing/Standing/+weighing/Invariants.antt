use Rattle.std.proofs.Common.{◌+◌, ◌*◌, max}
use Rattle.golog_tree.specs.declared.prog.Prog.TheVariants as prog
use Rattle.golog_semantics.specs.Guarded.{front}
use Rattle.golog_search.proofs.Weighs.{NoneBefore}
use Rattle.golog_search.proofs.weighing.Standing.+weighing.Given as goal

abbrev pub decreases-some_weighs : goal.decreases-some_weighs
decreases-some_weighs l = 1 + 3 * (front l.self.now.agent.now l.prog.now).height

abbrev pub decreases-either_weighs : goal.decreases-either_weighs
decreases-either_weighs l = 2 + 3 * max (front l.self.now.agent.now l.one.now).height (front l.self.now.agent.now l.other.now).height

abbrev pub decreases-weighs_in_prio : goal.decreases-weighs_in_prio
decreases-weighs_in_prio l = 2 + 3 * max (front l.self.now.agent.now l.high.now).height (front l.self.now.agent.now l.low.now).height

abbrev pub decreases-weighs_in_seq : goal.decreases-weighs_in_seq
decreases-weighs_in_seq l = 3 * (front l.self.now.agent.now (prog.Seq l.one.now l.other.now)).height

abbrev pub decreases-weighs_in : goal.decreases-weighs_in
decreases-weighs_in l = 2 + 3 * (front l.self.now.agent.now l.prog).height

abbrev pub decreases-weighs_in_pick : goal.decreases-weighs_in_pick
decreases-weighs_in_pick l = 3 * (front l.self.now.agent.now (prog.Pick l.var l.sort l.body.now)).height

abbrev pub decreases-weighs_in_call : goal.decreases-weighs_in_call
decreases-weighs_in_call l = 3 * (front l.self.now.agent.now (prog.Call l.item l.args.now)).height

abbrev pub invariant-weighs_in_pick-loop-constant : goal.invariant-weighs_in_pick-loop-constant
invariant-weighs_in_pick-loop-constant l = NoneBefore l.self.agent.now l.self.state.now l.self.stepless l.higher l.var l.sort l.body l.constant
