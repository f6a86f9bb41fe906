use Rattle.std.proofs.Common.{◌++◌, arith}
use Rattle.golog_tree.specs.Ground.{fluent_args}
use Rattle.golog_tree.proofs.Numbers.{length-all_from}
use Rattle.golog_text.specs.Heads.{start_lines}
use Rattle.golog_text.proofs.HeadLines.{no_starts, starts_from}
use Rattle.golog_text.proofs.Lines.{whole_text}
use Rattle.golog_text.proofs.head.add_starts.Goals as goal

pub overflow_cast-fluent : goal.overflow_cast-fluent
overflow_cast-fluent c =
    let agent = c.args.agent.now in
    let whole = length-all_from agent (fluent_args agent) 0 in
    let few = c.requires.formed.countable.ground_fluents in
    let each = c.requires.sorts.whole in
    omega (arith, c.loop-fluent-test.true, whole, few, each)

pub add_start-requires-clause-number : goal.add_start-requires-clause-number
add_start-requires-clause-number c =
    let agent = c.args.agent.now in
    let whole = length-all_from agent (fluent_args agent) 0 in
    let each = c.requires.sorts.whole in
    omega (arith, c.loop-fluent-test.true, whole, each)

pub returns : goal.returns
unfolding start_lines
returns c =
    let agent = c.args.agent.now in
    let values = c.args.values.now in
    whole_text c.loop-fluent.text (starts_from agent values c.loop-fluent.fluent) (c.args.text.now ++ starts_from agent values 0)
    c.loop-fluent.invariant (no_starts agent values c.loop-fluent.fluent (omega (arith, c.loop-fluent-test.false)))
