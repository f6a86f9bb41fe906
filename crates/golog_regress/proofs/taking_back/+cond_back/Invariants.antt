use Rattle.std.proofs.Common.{◌≡◌, map, take}
use Rattle.golog_regress.specs.Regressed.{cond_back}
use Rattle.golog_regress.proofs.taking_back.+cond_back.Given as goal

abbrev pub invariant-conds_back-loop-cond : goal.invariant-conds_back-loop-cond
invariant-conds_back-loop-cond l = l.list ≡ map (cond_back l.change.agent.now l.change.happened.now l.change.causes.now) (take l.cond-index l.conds)
