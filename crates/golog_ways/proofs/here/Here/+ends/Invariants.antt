use Rattle.std.proofs.Common.{◌+◌, ◌*◌}
use Rattle.golog_tree.specs.declared.prog.Prog.TheVariants as prog
use Rattle.golog_semantics.specs.Guarded.{front}
use Rattle.golog_fronts.proofs.Closing.{both_height}
use Rattle.golog_ways.proofs.Some.{EndsSoFar}
use Rattle.golog_ways.proofs.here.Here.+ends.Given as goal

abbrev pub decreases-ends_in : goal.decreases-ends_in
decreases-ends_in l = 1 + 3 * (front l.self.now.agent.now l.prog.now).height

abbrev pub decreases-both_end : goal.decreases-both_end
decreases-both_end l = 2 + 3 * both_height l.self.now.agent.now l.one.now l.other.now

abbrev pub decreases-ends_or : goal.decreases-ends_or
decreases-ends_or l = 2 + 3 * (front l.self.now.agent.now l.prog.now).height

abbrev pub decreases-ends_of_put : goal.decreases-ends_of_put
decreases-ends_of_put l = 2 + 3 * (front l.self.now.agent.now l.prog).height

abbrev pub decreases-ends_of_pick : goal.decreases-ends_of_pick
decreases-ends_of_pick l = 3 * (front l.self.now.agent.now (prog.Pick l.var l.sort l.body.now)).height

abbrev pub decreases-ends_of_call : goal.decreases-ends_of_call
decreases-ends_of_call l = 3 * (front l.self.now.agent.now (prog.Call l.item l.args.now)).height

abbrev pub invariant-ends_of_pick-loop-constant : goal.invariant-ends_of_pick-loop-constant
invariant-ends_of_pick-loop-constant l = EndsSoFar l.self.agent.now l.self.values.now l.var l.sort l.body l.constant l.some
