use Rattle.std.proofs.Common.{◌==◌, ap}
use Rattle.golog_replay.proofs.standing.Standing.was_sent.Goals as goal

pub returns : goal.returns
returns c = ap (λ n. c.args.count == n) c.tracked.ensures.commands_so
