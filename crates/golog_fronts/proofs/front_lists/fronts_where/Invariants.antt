use Rattle.std.proofs.Common.{◌≡◌, map, take}
use Rattle.golog_fronts.specs.FrontLists.{front_where}
use Rattle.golog_fronts.proofs.front_lists.fronts_where.Given as goal

abbrev pub invariant-loop-front : goal.invariant-loop-front
invariant-loop-front l = l.list ≡ map (front_where l.cond) (take l.front-index l.fronts)
