use Rattle.std.proofs.Common.{sym, ◌∙◌}
use Rattle.golog_replay.proofs.Judging.{step-breaks, step-keeps}
use Rattle.golog_replay.proofs.course.judge_run.Goals as goal

pub returns-then-kept : goal.returns-then-kept
returns-then-kept c =
    let here = c.args.here.now in
    step-keeps c.args.agent.now here.before.now here.runs.now here.next c.requires.early c.args.step c.requires.step (sym c.keeps_run-kept.ensures ∙ c.if-kept.true)

pub returns : goal.returns
returns c =
    let here = c.args.here.now in
    step-breaks c.args.agent.now here.before.now here.runs.now here.next c.requires.early c.args.step c.requires.step (sym c.keeps_run-kept.ensures ∙ c.if-kept.false)
