use Rattle.golog_replay.proofs.Tracking.{tracked-here}
use Rattle.golog_replay.proofs.standing.Standing.tracked.Goals as goal

pub returns : goal.returns
returns c =
    tracked-here c.args.agent.now c.args.before.now c.args.self.now.devices.items c.deref.result.now c.requires.standing.tracked c.deref.ensures.value
    c.args.device c.requires.device c.tracked_at.result c.tracked_at.ensures
