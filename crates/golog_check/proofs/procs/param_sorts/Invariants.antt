use Rattle.std.proofs.Common.{◌≡◌, map, take}
use Rattle.golog_tree.specs.declared.draft.DraftParam.{DraftParam}
use Rattle.golog_check.proofs.procs.param_sorts.Given as goal

abbrev pub invariant-loop-param : goal.invariant-loop-param
invariant-loop-param l = l.sorts ≡ map (λ (param : DraftParam). param.sort) (take l.param-index l.item.params)
