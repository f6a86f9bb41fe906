use Rattle.std.proofs.Common.{drop}
use Rattle.golog_regress.specs.Regression.{IsRegressed}
use Rattle.golog_regress.proofs.regression.regress_all.Given as goal

abbrev pub invariant-loop-index : goal.invariant-loop-index
invariant-loop-index l = IsRegressed l.agent (drop l.index l.events) l.cond l.answer
