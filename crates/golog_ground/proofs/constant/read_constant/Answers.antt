use Rattle.std.proofs.Common.{sym}
use Rattle.golog_ground.proofs.Places.{is-at, is-past}
use Rattle.golog_ground.proofs.Constants.{own-names, of-agent, unmarked-of-agent, no-sort, unmarked-no-sort}
use Rattle.golog_ground.proofs.constant.read_constant.Goals as goal

pub read_in-requires-clause-apart : goal.read_in-requires-clause-apart
read_in-requires-clause-apart c =
    own-names c.args.agent.now c.requires c.args.sort c.in-Some.item.now
    (sym (is-at c.as_slice.result.now c.args.agent.now.sorts c.args.sort c.in-Some.item.now c.as_slice.ensures c.in-Some.ensures.lookup.0 c.in-Some.ensures.lookup.1))

pub returns-in-Some-clause-the_one : goal.returns-in-Some-clause-the_one
returns-in-Some-clause-the_one c =
    of-agent c.args.agent.now c.args.sort c.in-Some.item.now c.args.bytes.now c.read_in.result
    (is-at c.as_slice.result.now c.args.agent.now.sorts c.args.sort c.in-Some.item.now c.as_slice.ensures c.in-Some.ensures.lookup.0 c.in-Some.ensures.lookup.1) c.read_in.ensures.the_one

pub returns-in-Some-clause-unmarked : goal.returns-in-Some-clause-unmarked
returns-in-Some-clause-unmarked c =
    unmarked-of-agent c.args.agent.now c.args.sort c.in-Some.item.now
    (is-at c.as_slice.result.now c.args.agent.now.sorts c.args.sort c.in-Some.item.now c.as_slice.ensures c.in-Some.ensures.lookup.0 c.in-Some.ensures.lookup.1) c.read_in.ensures.unmarked

pub returns-in-None-clause-the_one : goal.returns-in-None-clause-the_one
returns-in-None-clause-the_one c =
    no-sort c.args.agent.now c.args.sort c.args.bytes.now
    (is-past c.as_slice.result.now c.args.agent.now.sorts c.args.sort c.as_slice.ensures c.in-None.ensures.lookup.3)

pub returns-in-None-clause-unmarked : goal.returns-in-None-clause-unmarked
returns-in-None-clause-unmarked c =
    unmarked-no-sort c.args.agent.now c.args.sort
    (is-past c.as_slice.result.now c.args.agent.now.sorts c.args.sort c.as_slice.ensures c.in-None.ensures.lookup.3)
