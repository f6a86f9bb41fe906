use Rattle.std.proofs.Common.{◌≡◌, false, replicate}
use Rattle.golog_shapes.specs.Settled.{rounds_of}
use Rattle.golog_shapes.proofs.rounds.rounds_of.Given as goal

abbrev pub invariant-loop : goal.invariant-loop
invariant-loop g l = l.said ≡ rounds_of (g.R.Round.round l.by) l.counter (replicate (g.R.Round.count l.by) false)
