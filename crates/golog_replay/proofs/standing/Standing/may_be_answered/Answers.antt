use Rattle.std.proofs.Common.{ap, ◌∙◌}
use Rattle.std.specs.List.{list_any}
use Rattle.golog_replay.specs.Standings.{may_tell}
use Rattle.golog_replay.proofs.Tracking.{may-any}
use Rattle.golog_replay.proofs.standing.Standing.may_be_answered.Goals as goal

pub returns : goal.returns
returns c =
    c.some_may_tell.ensures ∙ ap (list_any may_tell) c.deref.ensures.value
    ∙ may-any c.args.agent.now c.args.before.now c.args.self.now.devices.items c.requires.tracked
