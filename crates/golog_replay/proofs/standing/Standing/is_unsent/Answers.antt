use Rattle.golog_semantics.specs.Journal.{commands}
use Rattle.golog_replay.proofs.Noting.{empty-by}
use Rattle.golog_replay.proofs.standing.Standing.is_unsent.Goals as goal

pub returns : goal.returns
returns c =
    empty-by c.tracked.result.commands (commands c.args.agent.now c.args.device c.args.before.now) c.tracked.ensures.commands_so
