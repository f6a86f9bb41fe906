use Rattle.std.proofs.Common.{◌≤◌, drop, length}
use Rattle.golog_regress.specs.Regression.{IsRegressed}
use Rattle.golog_ask.specs.Events.{events_of}
use Rattle.golog_ask.proofs.earlier.taken_back.Given as goal

abbrev pub invariant-loop-left : goal.invariant-loop-left
invariant-loop-left l = record {
  inside : l.left ≤ length l.entries;
  back : IsRegressed l.agent (events_of (drop l.left l.entries)) l.cond l.earlier;
}

abbrev pub decreases-loop-left : goal.decreases-loop-left
decreases-loop-left l = l.left
