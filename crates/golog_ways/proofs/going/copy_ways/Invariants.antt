use Rattle.std.proofs.Common.{◌≡◌, take}
use Rattle.golog_ways.proofs.going.copy_ways.Given as goal

-- a copy of the ways so far
abbrev pub invariant-loop-way : goal.invariant-loop-way
invariant-loop-way l = l.copy ≡ take l.way-index l.ways
