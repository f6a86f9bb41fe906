use Rattle.std.proofs.Common.{refl, sym, ◌∙◌}
use Rattle.golog_tree.specs.declared.prog.Prog.TheVariants as prog
use Rattle.golog_fronts.proofs.Closing.{test_fits}
use Rattle.golog_ways.proofs.MoveSteps.{test_taken, test_barred}
use Rattle.golog_ways.proofs.here.Here.test_move.Goals as goal

pub truth-requires : goal.truth-requires
truth-requires c = test_fits c.args.self.now.agent.now (prog.Test c.args.cond.now) c.args.cond.now c.requires refl

pub returns-then-holds : goal.returns-then-holds
returns-then-holds c blocks =
    test_taken c.args.self.now.agent.now blocks c.args.self.now.values.now c.args.self.now.fit.guarded c.args.cond.now c.truth.result c.truth.ensures (sym c.holds.ensures ∙ c.if-holds.true)

pub returns-else-holds : goal.returns-else-holds
returns-else-holds c blocks =
    test_barred c.args.self.now.agent.now blocks c.args.self.now.values.now c.args.self.now.fit.guarded c.args.cond.now c.truth.result c.truth.ensures (sym c.holds.ensures ∙ c.if-holds.false)
