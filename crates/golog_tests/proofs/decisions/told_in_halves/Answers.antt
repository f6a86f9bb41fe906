use Rattle.std.proofs.Common.{true, subst}
use Rattle.golog_search.specs.Decided.{IsAhead}
use Rattle.golog_search.proofs.Choosing.{nothing-ahead}
use Rattle.golog_tests.proofs.decisions.told_in_halves.Goals as goal

pub decide_blocked-requires-clause-unended : goal.decide_blocked-requires-clause-unended
decide_blocked-requires-clause-unended c =
    let agent = c.args.agent.now in
    (nothing-ahead agent c.args.state.now agent.main
    (subst (IsAhead agent c.args.state.now agent.main true) c.in-Ok-None.field-0-is c.in-Ok-None.ensures)).0

pub decide_blocked-requires-clause-stepless : goal.decide_blocked-requires-clause-stepless
decide_blocked-requires-clause-stepless c =
    let agent = c.args.agent.now in
    (nothing-ahead agent c.args.state.now agent.main
    (subst (IsAhead agent c.args.state.now agent.main true) c.in-Ok-None.field-0-is c.in-Ok-None.ensures)).1
