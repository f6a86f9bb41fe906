use Rattle.std.proofs.Common.{◌≡◌, None, subst}
use Rattle.golog_search.specs.Decided.{IsAhead, ahead}
use Rattle.golog_search.proofs.Choosing.{decided, nothing-ahead}
use Rattle.golog_search.proofs.deciding.look.Goals as goal

pub returns-in-Some : goal.returns-in-Some
returns-in-Some g c =
    decided c.args.agent.now c.args.blocks.now.state.now c.args.prog.now c.args.blocks.now.bounded c.in-Some.decision
    (subst (IsAhead c.args.agent.now c.args.blocks.now.state.now c.args.prog.now c.args.blocks.now.bounded) c.in-Some.is c.in_ok-decision.ensures)

pub look_why-requires-clause-unended : goal.look_why-requires-clause-unended
look_why-requires-clause-unended g c =
    let none : None ≡ ahead c.args.agent.now c.args.blocks.now.state.now c.args.prog.now =
    subst (IsAhead c.args.agent.now c.args.blocks.now.state.now c.args.prog.now c.args.blocks.now.bounded) c.in-None.is c.in_ok-decision.ensures in
    (nothing-ahead c.args.agent.now c.args.blocks.now.state.now c.args.prog.now none).0

pub look_why-requires-clause-stepless : goal.look_why-requires-clause-stepless
look_why-requires-clause-stepless g c =
    let none : None ≡ ahead c.args.agent.now c.args.blocks.now.state.now c.args.prog.now =
    subst (IsAhead c.args.agent.now c.args.blocks.now.state.now c.args.prog.now c.args.blocks.now.bounded) c.in-None.is c.in_ok-decision.ensures in
    (nothing-ahead c.args.agent.now c.args.blocks.now.state.now c.args.prog.now none).1
