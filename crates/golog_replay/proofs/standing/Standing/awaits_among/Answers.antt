use Rattle.std.proofs.Common.{◌∙◌}
use Rattle.golog_replay.proofs.Awaiting.{among-by}
use Rattle.golog_replay.proofs.standing.Standing.awaits_among.Goals as goal

pub returns : goal.returns
returns c =
    c.awaits_among.ensures
    ∙ among-by c.args.agent.now c.args.before.now c.args.device c.tracked.result.first c.tracked.ensures.awaits c.args.taken
