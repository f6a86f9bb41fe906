use Rattle.std.proofs.Common.{ℕ, ◌+◌, ◌*◌, max}
use Rattle.golog_tree.specs.declared.prog.Prog.TheVariants as prog
use Rattle.golog_semantics.specs.Guarded.{front}
use Rattle.golog_fronts.proofs.Ends.{EndsSoFar}
use Rattle.golog_fronts.proofs.here.Fit.+ending.Given as goal

abbrev pub decreases-end_of : goal.decreases-end_of
decreases-end_of l = 1 + 3 * (front l.self.now.agent.now l.prog.now).height

abbrev pub decreases-ends : goal.decreases-ends
decreases-ends l = 2 + 3 * max (front l.self.now.agent.now l.one.now).height (front l.self.now.agent.now l.other.now).height

abbrev pub decreases-end_of_seq : goal.decreases-end_of_seq
decreases-end_of_seq l = 3 * (front l.self.now.agent.now (prog.Seq l.one.now l.other.now)).height

abbrev pub decreases-end_of_put : goal.decreases-end_of_put
decreases-end_of_put l = 2 + 3 * (front l.self.now.agent.now l.prog).height

abbrev pub decreases-end_of_pick : goal.decreases-end_of_pick
decreases-end_of_pick l = 3 * (front l.self.now.agent.now (prog.Pick l.var l.sort l.body.now)).height

abbrev pub decreases-end_of_call : goal.decreases-end_of_call
decreases-end_of_call l = 3 * (front l.self.now.agent.now (prog.Call l.item l.args.now)).height

abbrev pub invariant-end_of_pick-loop-constant : goal.invariant-end_of_pick-loop-constant
invariant-end_of_pick-loop-constant l = EndsSoFar l.self.agent.now l.var l.sort l.body l.constant l.ends
