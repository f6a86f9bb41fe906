use Rattle.std.proofs.Common.{sym, ◌∙◌}
use Rattle.golog_ways.proofs.EndSteps.{barred_ends}
use Rattle.golog_ways.proofs.here.Here.ends_of.Goals as goal

pub returns-else-may_skip : goal.returns-else-may_skip
returns-else-may_skip c =
    barred_ends c.args.self.now.agent.now c.args.self.now.values.now c.args.self.now.fit.guarded c.args.prog.now (sym c.may_skip.ensures ∙ c.if-may_skip.false)
