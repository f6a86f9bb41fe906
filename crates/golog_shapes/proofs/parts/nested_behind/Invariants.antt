use Rattle.std.proofs.Common.{◌≡◌, [], ◌∷◌, ◌++◌, length}
use Rattle.golog_shapes.specs.Nested.{nested}
use Rattle.golog_shapes.proofs.parts.nested_behind.Given as goal

abbrev pub decreases-loop-part : goal.decreases-loop-part
decreases-loop-part l = length l.others

abbrev pub invariant-loop-part : goal.invariant-loop-part
invariant-loop-part l = nested l.join (l.others ++ l.prog ∷ []) ≡ nested l.join (l.fn.others ++ l.fn.last ∷ [])
