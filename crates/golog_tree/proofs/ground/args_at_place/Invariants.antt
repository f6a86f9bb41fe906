use Rattle.std.proofs.Common.{◌≡◌, ◌-◌, ◌++◌, take, replicate}
use Rattle.golog_tree.specs.Ground.{sizes, args_of}
use Rattle.golog_tree.proofs.ground.args_at_place.Given as goal

abbrev pub invariant-loop-index : goal.invariant-loop-index
invariant-loop-index l = l.args ≡ take l.index (args_of (sizes l.agent l.sorts) l.place) ++ replicate (3 - l.index) 0
