use Rattle.golog_text.proofs.RunsBehind.{others_behind, all_behind}
use Rattle.golog_text.proofs.runs.runs_behind.Goals as goal

pub returns-in-Some : goal.returns-in-Some
returns-in-Some c =
    others_behind c.args.place c.in-Some.first.now c.in-Some.others.now c.args.runs.now c.in-Some.ensures.cases.0 c.requires c.if-first-place.true

pub returns-in_default : goal.returns-in_default
returns-in_default c =
    all_behind c.args.place c.in-Some.first.now c.in-Some.others.now c.args.runs.now c.in-Some.ensures.cases.0 c.requires c.if-first-place.false
