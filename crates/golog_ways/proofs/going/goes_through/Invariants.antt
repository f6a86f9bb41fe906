use Rattle.std.proofs.Common.{◌≡◌, drop}
use Rattle.golog_semantics.specs.Blocks.{goes_through}
use Rattle.golog_ways.specs.Searched.{IsSearched}
use Rattle.golog_ways.proofs.going.goes_through.Given as goal

-- what is left of the run decides, from where its first ways lead
abbrev pub invariant-loop-way : goal.invariant-loop-way
invariant-loop-way l =
    (goes_through l.agent l.body l.rest l.state ≡ goes_through l.agent l.left (drop l.way-index l.rest) l.there)
    × IsSearched l.agent l.left l.there
