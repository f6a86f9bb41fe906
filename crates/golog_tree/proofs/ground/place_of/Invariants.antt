use Rattle.golog_tree.specs.Ground.{sizes, place_of}
use Rattle.golog_tree.proofs.Decoded.{IsPassed}
use Rattle.golog_tree.proofs.ground.place_of.Given as goal

abbrev pub invariant-loop-index : goal.invariant-loop-index
invariant-loop-index l = IsPassed l.agent l.sorts l.args l.index l.place (place_of (sizes l.agent l.sorts) l.args)
