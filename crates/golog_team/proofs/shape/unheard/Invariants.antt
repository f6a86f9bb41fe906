use Rattle.std.proofs.Common.{◌≡◌, ◌-◌, ◌≤◌, ◌&&◌, not, length}
use Rattle.std.specs.Prelude.{find}
use Rattle.std.specs.List.{range_with_len}
use Rattle.golog_semantics.specs.Values.{ground_actions}
use Rattle.golog_semantics.specs.Journal.{is_carried_by}
use Rattle.golog_team.specs.Shapes.{is_heard, unheard}
use Rattle.golog_team.proofs.shape.unheard.Given as goal

abbrev pub invariant-loop-action : goal.invariant-loop-action
invariant-loop-action l =
    (unheard l.agent l.other
    ≡ find (λ a. is_carried_by l.agent 0 a && not (is_heard l.agent l.other a)) (range_with_len l.action (length (ground_actions l.agent) - l.action)))
    × (l.action ≤ length (ground_actions l.agent))
