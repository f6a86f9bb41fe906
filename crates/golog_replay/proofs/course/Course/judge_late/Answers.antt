use Rattle.std.proofs.Common.{subst}
use Rattle.golog_replay.specs.Courses.{SteppingIs}
use Rattle.golog_replay.proofs.Judging.{no-step-here}
use Rattle.golog_replay.proofs.course.Course.judge_late.Goals as goal

pub returns-in-Breaks : goal.returns-in-Breaks
returns-in-Breaks c =
    let here = c.args.here.now in
    no-step-here c.args.agent.now here.before.now here.runs.now here.next c.requires.early
    (subst (SteppingIs c.args.agent.now here.before.now here.next) c.in-Breaks.is c.in_ok-stepping.ensures)

pub judge_other-requires-clause-no_step : goal.judge_other-requires-clause-no_step
judge_other-requires-clause-no_step c =
    let here = c.args.here.now in
    subst (SteppingIs c.args.agent.now here.before.now here.next) c.in-NoStep.is c.in_ok-stepping.ensures

pub judge_run-requires-clause-step : goal.judge_run-requires-clause-step
judge_run-requires-clause-step c =
    let here = c.args.here.now in
    subst (SteppingIs c.args.agent.now here.before.now here.next) c.in-Steps.is c.in_ok-stepping.ensures
