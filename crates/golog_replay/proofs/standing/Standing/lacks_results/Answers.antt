use Rattle.std.proofs.Common.{ap, ◌∙◌}
use Rattle.std.specs.Prelude.{is_some}
use Rattle.std.specs.List.{list_any}
use Rattle.golog_replay.specs.declared.tracked.Tracked.{Tracked}
use Rattle.golog_replay.proofs.Tracking.{lacks-any}
use Rattle.golog_replay.proofs.standing.Standing.lacks_results.Goals as goal

pub returns : goal.returns
returns c =
    c.some_lacks.ensures ∙ ap (list_any (λ (t : Tracked). is_some t.first)) c.deref.ensures.value
    ∙ lacks-any c.args.agent.now c.args.before.now c.args.self.now.devices.items c.requires.tracked
