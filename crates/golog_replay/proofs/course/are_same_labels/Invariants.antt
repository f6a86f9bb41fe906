use Rattle.std.proofs.Common.{◌≡◌, drop}
use Rattle.std.specs.Cmp.Lexicographic.{pointwise}
use Rattle.golog_semantics.specs.Same.{same_label}
use Rattle.golog_replay.proofs.course.are_same_labels.Given as goal

abbrev pub invariant-loop-label : goal.invariant-loop-label
invariant-loop-label l = pointwise same_label l.one l.other ≡ pointwise same_label (drop l.label-index l.one) l.rest
