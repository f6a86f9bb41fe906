use Rattle.golog_replay.proofs.course.Course.judge.Goals as goal

pub judge_late-requires-clause-early : goal.judge_late-requires-clause-early
judge_late-requires-clause-early c = c.in-None.ensures

pub returns-in-Some : goal.returns-in-Some
returns-in-Some c = λ lines. c.in-Some.ensures lines c.args.here.now.runs.now
