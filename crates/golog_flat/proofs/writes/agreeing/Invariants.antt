use Rattle.golog_flat.proofs.Agreeing.{AgreeBelow}
use Rattle.golog_flat.proofs.writes.agreeing.Given as goal

abbrev pub invariant-loop-place : goal.invariant-loop-place
invariant-loop-place l = AgreeBelow l.lows l.highs l.place l.writes
