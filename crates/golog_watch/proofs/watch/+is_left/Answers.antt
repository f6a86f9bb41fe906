use Rattle.std.proofs.Common.{sym, ◌∙◌}
use Rattle.golog_watch.proofs.Telling.{left-other, left-over, left-same}
use Rattle.golog_watch.proofs.watch.+is_left.Goals as goal

pub returns-then-run-rest : goal.returns-then-run-rest
returns-then-run-rest t c = c.is_whole.ensures ∙ sym (left-same c.args.whole.now c.args.run.now c.args.body.now c.args.rest.now c.if-run-rest.true)

pub returns-in-Some : goal.returns-in-Some
returns-in-Some t c =
    c.is_left.ensures
    ∙ sym (left-other c.args.whole.now c.args.run.now c.in-Some.way.now c.in-Some.later.now c.args.body.now c.args.rest.now c.in-Some.ensures.cases.0 c.if-run-rest.false)

pub returns-in-None : goal.returns-in-None
returns-in-None t c =
    sym (left-over c.args.whole.now c.args.run.now c.args.body.now c.args.rest.now c.in-None.ensures.cases c.if-run-rest.false)
