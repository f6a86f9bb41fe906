use Rattle.std.proofs.Common.{arith}
use Rattle.golog_tree.specs.Ground.{fluent_args}
use Rattle.golog_tree.proofs.Numbers.{length-all_from}
use Rattle.golog_reports.proofs.head.head_length.Goals as goal

pub overflow_cast-result : goal.overflow_cast-result
overflow_cast-result c =
    let whole = length-all_from c.args.agent.now (fluent_args c.args.agent.now) 0 in
    omega (arith, whole, c.requires.starts.whole, c.requires.countable.ground_fluents, c.len.ensures)

pub overflow_add-result : goal.overflow_add-result
overflow_add-result c =
    let whole = length-all_from c.args.agent.now (fluent_args c.args.agent.now) 0 in
    omega (arith, whole, c.requires.starts.whole, c.requires.countable.ground_fluents, c.len.ensures)

pub returns-clause-few : goal.returns-clause-few
returns-clause-few c =
    let whole = length-all_from c.args.agent.now (fluent_args c.args.agent.now) 0 in
    omega (arith, whole, c.requires.starts.whole, c.requires.countable.ground_fluents, c.len.ensures)
