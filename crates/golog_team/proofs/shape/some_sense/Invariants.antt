use Rattle.std.proofs.Common.{◌≡◌, ◌-◌, ◌≤◌, ◌&&◌, length}
use Rattle.std.specs.List.{list_any, range_with_len}
use Rattle.golog_semantics.specs.Values.{ground_actions}
use Rattle.golog_semantics.specs.Journal.{is_carried_by, is_sensing}
use Rattle.golog_team.specs.Shapes.{numbers}
use Rattle.golog_team.proofs.shape.some_sense.Given as goal

abbrev pub invariant-loop-action : goal.invariant-loop-action
invariant-loop-action l =
    (list_any (λ a. is_carried_by l.agent 0 a && is_sensing l.agent a) (numbers l.agent)
    ≡ list_any (λ a. is_carried_by l.agent 0 a && is_sensing l.agent a) (range_with_len l.action (length (ground_actions l.agent) - l.action)))
    × (l.action ≤ length (ground_actions l.agent))
