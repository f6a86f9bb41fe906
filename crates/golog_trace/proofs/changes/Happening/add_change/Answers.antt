use Rattle.std.proofs.Common.{◌<◌, length, arith}
use Rattle.golog_tree.specs.Ground.{fluent_args}
use Rattle.golog_tree.proofs.Numbers.{length-all_from}
use Rattle.golog_trace.proofs.changes.Happening.add_change.Goals as goal

pub bounds-self-fluent : goal.bounds-self-fluent
bounds-self-fluent c =
    let agent = c.args.self.now.agent.now in
    let whole = length-all_from agent (fluent_args agent) 0 in
    let each = c.requires.sorts.whole in
    omega (arith, c.requires.number, whole, each)

pub add_changed-requires-clause-old : goal.add_changed-requires-clause-old
add_changed-requires-clause-old c =
    let agent = c.args.self.now.agent.now in
    let whole = length-all_from agent (fluent_args agent) 0 in
    let each = c.requires.sorts.whole in
    c.requires.sorts.sorted c.args.fluent (omega (arith, c.requires.number, whole, each))
