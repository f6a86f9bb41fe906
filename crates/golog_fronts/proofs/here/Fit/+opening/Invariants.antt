use Rattle.std.proofs.Common.{ℕ, ◌+◌, ◌*◌, max}
use Rattle.golog_tree.specs.declared.prog.Prog.TheVariants as prog
use Rattle.golog_semantics.specs.Guarded.{front}
use Rattle.golog_fronts.proofs.Opened.{FrontsSoFar}
use Rattle.golog_fronts.proofs.here.Fit.+opening.Given as goal

abbrev pub decreases-fronts_of : goal.decreases-fronts_of
decreases-fronts_of l = 1 + 3 * (front l.self.now.agent.now l.prog.now).height

abbrev pub decreases-fronts_of_both : goal.decreases-fronts_of_both
decreases-fronts_of_both l = 2 + 3 * max (front l.self.now.agent.now l.one.now).height (front l.self.now.agent.now l.other.now).height

abbrev pub decreases-fronts_of_seq : goal.decreases-fronts_of_seq
decreases-fronts_of_seq l = 3 * (front l.self.now.agent.now (prog.Seq l.one.now l.other.now)).height

abbrev pub decreases-fronts_of_put : goal.decreases-fronts_of_put
decreases-fronts_of_put l = 2 + 3 * (front l.self.now.agent.now l.prog).height

abbrev pub decreases-fronts_of_pick : goal.decreases-fronts_of_pick
decreases-fronts_of_pick l = 3 * (front l.self.now.agent.now (prog.Pick l.var l.sort l.body.now)).height

abbrev pub decreases-fronts_of_call : goal.decreases-fronts_of_call
decreases-fronts_of_call l = 3 * (front l.self.now.agent.now (prog.Call l.item l.args.now)).height

abbrev pub invariant-fronts_of_pick-loop-constant : goal.invariant-fronts_of_pick-loop-constant
invariant-fronts_of_pick-loop-constant l = FrontsSoFar l.self.agent.now l.var l.sort l.body l.constant l.all

abbrev pub decreases-fronts_of_conc : goal.decreases-fronts_of_conc
decreases-fronts_of_conc l = 3 * (front l.self.now.agent.now (prog.Conc l.one.now l.other.now)).height

abbrev pub decreases-fronts_of_prio : goal.decreases-fronts_of_prio
decreases-fronts_of_prio l = 3 * (front l.self.now.agent.now (prog.Prio l.high.now l.low.now)).height
