use Rattle.std.proofs.Common.{◌≡◌, ◌&&◌}
use Rattle.std.specs.List.{list_all}
use Rattle.golog_reports.specs.Forms.{is_step, parts, parts_behind, length_behind}
use Rattle.golog_reports.specs.Views.{lent}
use Rattle.golog_reports.proofs.forms.is_run.Given as goal

abbrev pub invariant-loop-behind : goal.invariant-loop-behind
invariant-loop-behind l = list_all is_step (parts 59 l.text) ≡ (is_step l.part && list_all is_step (parts_behind 59 (lent l.behind)))

abbrev pub decreases-loop-behind : goal.decreases-loop-behind
decreases-loop-behind l = length_behind (lent l.behind)
