use Rattle.std.proofs.Common.{drop}
use Rattle.golog_regress.specs.Regression.{IsRegressed}
use Rattle.golog_ask.specs.Events.{events_of}
use Rattle.golog_ask.proofs.earlier.up_to_change.Given as goal

abbrev pub invariant-loop-index : goal.invariant-loop-index
invariant-loop-index l = IsRegressed l.agent (events_of (drop l.index l.entries)) l.cond l.cond
