use Rattle.std.proofs.Common.{ap, ◌∙◌}
use Rattle.std.specs.List.{list_all}
use Rattle.golog_replay.specs.Standings.{is_quiet_by}
use Rattle.golog_replay.proofs.Tracking.{quiet-all}
use Rattle.golog_replay.proofs.standing.Standing.is_quiet.Goals as goal

pub returns : goal.returns
returns c =
    c.all_quiet.ensures ∙ ap (list_all is_quiet_by) c.deref.ensures.value
    ∙ quiet-all c.args.agent.now c.args.before.now c.args.self.now.devices.items c.requires.tracked
