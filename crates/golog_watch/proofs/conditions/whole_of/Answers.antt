use Rattle.std.proofs.Common.{sym}
use Rattle.golog_watch.proofs.Telling.{next-of, told-whole}
use Rattle.golog_watch.proofs.conditions.whole_of.Goals as goal

pub first_and-requires-clause-tells : goal.first_and-requires-clause-tells
first_and-requires-clause-tells c =
    told-whole c.args.agent.now c.args.way.now.left c.args.later.now c.args.conds.now c.in-Some.next.now c.requires.told (sym c.in-Some.ensures)

pub returns-in_ok-whole-in-Some : goal.returns-in_ok-whole-in-Some
returns-in_ok-whole-in-Some c =
    next-of c.args.agent.now c.args.prog.now c.args.way.now c.args.later.now c.args.conds.now c.in-Some.next.now c.in_ok-whole-in-Some.whole
    (sym c.in-Some.ensures) c.in_ok-whole-in-Some.ensures
