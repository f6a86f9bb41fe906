use Rattle.std.proofs.Common.{◌≡◌, drop}
use Rattle.std.specs.List.{list_any}
use Rattle.golog_semantics.specs.Same.{same_way}
use Rattle.golog_ways.proofs.going.is_among.Given as goal

-- the ways still to be tried decide
abbrev pub invariant-loop-other : goal.invariant-loop-other
invariant-loop-other l = list_any (same_way l.way) l.ways ≡ list_any (same_way l.way) (drop l.other-index l.ways)
