use Rattle.std.proofs.Common.{◌≡◌, length, map, replicate}
use Rattle.golog_shapes.specs.Settled.{rounds_of}
use Rattle.golog_shapes.specs.Fronts.{nest_round}
use Rattle.golog_shapes.specs.Told.{nesting}
use Rattle.golog_shapes.proofs.reaching.nests_of.Given as goal

abbrev pub invariant-loop : goal.invariant-loop
invariant-loop l = l.nests ≡ rounds_of (nest_round 1025 (map nesting l.items)) l.counter (replicate (length l.items) 0)
