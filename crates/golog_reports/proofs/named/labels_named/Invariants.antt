use Rattle.std.proofs.Common.{◌≡◌, [], ◌∷◌}
use Rattle.golog_reports.specs.Forms.{parts, parts_behind, length_behind}
use Rattle.golog_reports.specs.Reads.{labels_named}
use Rattle.golog_reports.specs.Views.{lent}
use Rattle.golog_reports.proofs.named.labels_named.Given as goal

abbrev pub invariant-loop-behind : goal.invariant-loop-behind
invariant-loop-behind l = labels_named l.agent l.labels (l.step ∷ parts_behind 59 (lent l.behind)) ≡ labels_named l.agent [] (parts 59 l.run)

abbrev pub decreases-loop-behind : goal.decreases-loop-behind
decreases-loop-behind l = length_behind (lent l.behind)
