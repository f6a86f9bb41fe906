use Rattle.std.proofs.Common.{◌++◌, arith}
use Rattle.golog_tree.specs.Ground.{fluent_args}
use Rattle.golog_tree.proofs.Numbers.{length-all_from}
use Rattle.golog_trace.specs.Judged.{open_line, open_lines}
use Rattle.golog_trace.proofs.Said.{all_said, said_from, said_on}
use Rattle.golog_trace.proofs.judging.add_opens.Goals as goal

pub overflow_cast-fluent : goal.overflow_cast-fluent
overflow_cast-fluent c =
    let agent = c.args.agent.now in
    let whole = length-all_from agent (fluent_args agent) 0 in
    let few = c.requires.formed.countable.ground_fluents in
    let each = c.requires.sorts.whole in
    omega (arith, c.loop-fluent-test.true, whole, few, each)

pub add_open-requires-clause-number : goal.add_open-requires-clause-number
add_open-requires-clause-number c =
    let agent = c.args.agent.now in
    let whole = length-all_from agent (fluent_args agent) 0 in
    let each = c.requires.sorts.whole in
    omega (arith, c.loop-fluent-test.true, whole, each)

pub loop-fluent-preserved : goal.loop-fluent-preserved
loop-fluent-preserved c =
    let say = open_line c.args.agent.now c.args.cond.now in
    let values = c.args.values.now in
    said_on say values c.loop-fluent.fluent c.loop-fluent-test.true c.loop-fluent.text c.add_open.new.text (c.args.text.now ++ said_from say values 0)
    c.loop-fluent.invariant c.in_ok-add_open.ensures

pub returns : goal.returns
unfolding open_lines
returns c =
    let say = open_line c.args.agent.now c.args.cond.now in
    let values = c.args.values.now in
    all_said say values c.loop-fluent.fluent c.loop-fluent.text (c.args.text.now ++ said_from say values 0)
    (omega (arith, c.loop-fluent-test.false)) c.loop-fluent.invariant
