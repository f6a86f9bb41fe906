use Rattle.std.proofs.Common.{Some, subst}
use Rattle.golog_replay.specs.Courses.{JudgedIs}
use Rattle.golog_replay.proofs.replaying.take.Goals as goal

pub returns-in-Broken : goal.returns-in-Broken
returns-in-Broken c = λ lines same.
    let here = c.args.here.now in
    subst (JudgedIs c.args.agent.now here.before.now here.runs.now here.next) c.in-Broken.is c.in_ok-judged.ensures (Some lines)

pub take_kept-requires-clause-kept : goal.take_kept-requires-clause-kept
take_kept-requires-clause-kept c =
    let here = c.args.here.now in
    subst (JudgedIs c.args.agent.now here.before.now here.runs.now here.next) c.in-Kept.is c.in_ok-judged.ensures
