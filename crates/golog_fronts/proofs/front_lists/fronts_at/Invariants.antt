use Rattle.std.proofs.Common.{◌≡◌, map, take}
use Rattle.golog_fronts.specs.Context.{placed}
use Rattle.golog_fronts.specs.FrontLists.{front_in}
use Rattle.golog_fronts.proofs.front_lists.fronts_at.Given as goal

abbrev pub invariant-loop-front : goal.invariant-loop-front
invariant-loop-front l = l.list ≡ map (front_in (λ p. placed l.place p l.other)) (take l.front-index l.fronts)
