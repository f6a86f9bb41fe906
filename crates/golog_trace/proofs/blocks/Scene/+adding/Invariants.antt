use Rattle.std.proofs.Common.{◌≡◌, ◌+◌, ◌*◌, ◌++◌, max}
use Rattle.golog_tree.specs.declared.prog.Prog.TheVariants as prog
use Rattle.golog_semantics.specs.Guarded.{front}
use Rattle.golog_trace.proofs.BlocksTold.{told_from}
use Rattle.golog_trace.proofs.blocks.Scene.+adding.Given as goal

abbrev pub decreases-add : goal.decreases-add
decreases-add l = 1 + 3 * (front l.self.now.agent.now l.prog.now).height

abbrev pub decreases-add_both : goal.decreases-add_both
decreases-add_both l = 2 + 3 * max (front l.self.now.agent.now l.one.now).height (front l.self.now.agent.now l.other.now).height

abbrev pub decreases-add_in_prio : goal.decreases-add_in_prio
decreases-add_in_prio l = 2 + 3 * max (front l.self.now.agent.now l.high.now).height (front l.self.now.agent.now l.low.now).height

abbrev pub decreases-add_in_seq : goal.decreases-add_in_seq
decreases-add_in_seq l = 3 * (front l.self.now.agent.now (prog.Seq l.one.now l.other.now)).height

abbrev pub decreases-add_put : goal.decreases-add_put
decreases-add_put l = 2 + 3 * (front l.self.now.agent.now l.prog).height

abbrev pub decreases-add_in_pick : goal.decreases-add_in_pick
decreases-add_in_pick l = 3 * (front l.self.now.agent.now (prog.Pick l.var l.sort l.body.now)).height

abbrev pub decreases-add_in_call : goal.decreases-add_in_call
decreases-add_in_call l = 3 * (front l.self.now.agent.now (prog.Call l.item l.args.now)).height

abbrev pub invariant-add_in_pick-loop-constant : goal.invariant-add_in_pick-loop-constant
invariant-add_in_pick-loop-constant l =
    l.text ++ told_from l.self.agent.now l.self.state.now l.higher l.var l.sort l.body l.constant
    ≡ l.initial.text ++ told_from l.self.agent.now l.self.state.now l.higher l.var l.sort l.body 0
