use Rattle.std.proofs.Common.{◌≡◌, map, take}
use Rattle.golog_fronts.specs.declared.front_lists.Front.{Front}
use Rattle.golog_fronts.proofs.front_lists.conds_of.Given as goal

abbrev pub invariant-loop-front : goal.invariant-loop-front
invariant-loop-front l = l.list ≡ map (λ (f : Front). f.cond) (take l.front-index l.fronts)
