use Rattle.std.proofs.Common.{◌++◌, arith}
use Rattle.golog_tree.specs.Ground.{fluent_args}
use Rattle.golog_tree.proofs.Numbers.{length-all_from}
use Rattle.golog_trace.specs.Changes.{change_line, change_lines}
use Rattle.golog_trace.proofs.Said.{all_said, said_from, said_on}
use Rattle.golog_trace.proofs.changes.Happening.add_changes.Goals as goal

pub overflow_cast-fluent : goal.overflow_cast-fluent
overflow_cast-fluent c =
    let agent = c.args.self.now.agent.now in
    let whole = length-all_from agent (fluent_args agent) 0 in
    let few = c.requires.formed.countable.ground_fluents in
    let each = c.requires.after.whole in
    omega (arith, c.loop-fluent-test.true, whole, few, each)

pub add_change-requires-clause-number : goal.add_change-requires-clause-number
add_change-requires-clause-number c =
    let agent = c.args.self.now.agent.now in
    let whole = length-all_from agent (fluent_args agent) 0 in
    let each = c.requires.after.whole in
    omega (arith, c.loop-fluent-test.true, whole, each)

pub loop-fluent-preserved : goal.loop-fluent-preserved
loop-fluent-preserved c =
    let self = c.args.self.now in
    let say = change_line self.agent.now self.before.now self.entry in
    let values = c.args.after.now in
    said_on say values c.loop-fluent.fluent c.loop-fluent-test.true c.loop-fluent.text c.add_change.new.text (c.args.text.now ++ said_from say values 0)
    c.loop-fluent.invariant c.in_ok-add_change.ensures

pub returns : goal.returns
unfolding change_lines
returns c =
    let self = c.args.self.now in
    let say = change_line self.agent.now self.before.now self.entry in
    let values = c.args.after.now in
    all_said say values c.loop-fluent.fluent c.loop-fluent.text (c.args.text.now ++ said_from say values 0)
    (omega (arith, c.loop-fluent-test.false)) c.loop-fluent.invariant
