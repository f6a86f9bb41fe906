use Rattle.std.proofs.Common.{sym}
use Rattle.golog_text.proofs.RunsBehind.{first_here, none_first, none_here}
use Rattle.golog_text.proofs.runs.run_here.Goals as goal

pub returns-then-run-place : goal.returns-then-run-place
returns-then-run-place c =
    sym (first_here c.args.place c.in-Some.run'.now c.args.runs.now c.in-Some.ensures.value c.if-run-place.true)

pub returns-else-run-place : goal.returns-else-run-place
returns-else-run-place c =
    sym (none_here c.args.place c.in-Some.run'.now c.args.runs.now c.in-Some.ensures.value c.requires c.if-run-place.false)

pub returns-in-None : goal.returns-in-None
returns-in-None c = sym (none_first c.args.place c.args.runs.now c.in-None.ensures.value)
