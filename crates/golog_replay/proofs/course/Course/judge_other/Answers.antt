use Rattle.std.proofs.Common.{sym, ◌∙◌}
use Rattle.golog_replay.proofs.Judging.{other-answer, other-close, other-keeps, other-run}
use Rattle.golog_replay.proofs.course.Course.judge_other.Goals as goal

pub returns-then-not-keeps_run : goal.returns-then-not-keeps_run
returns-then-not-keeps_run c =
    let here = c.args.here.now in
    other-run c.args.agent.now here.before.now here.runs.now here.next c.requires.early c.requires.no_step (sym c.keeps_run.ensures ∙ c.if-not-keeps_run.true)

pub returns-then-not-answers : goal.returns-then-not-answers
returns-then-not-answers c =
    let here = c.args.here.now in
    other-answer c.args.agent.now here.before.now here.runs.now here.next c.requires.early c.requires.no_step (sym c.keeps_run.ensures ∙ c.if-not-keeps_run.false)
    (sym c.in_ok-answers.ensures ∙ c.if-not-answers.true)

pub returns-then-not-keeps_close : goal.returns-then-not-keeps_close
returns-then-not-keeps_close c =
    let here = c.args.here.now in
    other-close c.args.agent.now here.before.now here.runs.now here.next c.requires.early c.requires.no_step (sym c.keeps_run.ensures ∙ c.if-not-keeps_run.false)
    (sym c.in_ok-answers.ensures ∙ c.if-not-answers.false) (sym c.keeps_close.ensures ∙ c.if-not-keeps_close.true)

pub returns : goal.returns
returns c =
    let here = c.args.here.now in
    other-keeps c.args.agent.now here.before.now here.runs.now here.next c.requires.early c.requires.no_step (sym c.keeps_run.ensures ∙ c.if-not-keeps_run.false)
    (sym c.in_ok-answers.ensures ∙ c.if-not-answers.false) (sym c.keeps_close.ensures ∙ c.if-not-keeps_close.false)
