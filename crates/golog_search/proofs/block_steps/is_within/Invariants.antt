use Rattle.std.proofs.Common.{◌≡◌, drop}
use Rattle.std.specs.List.{list_all}
use Rattle.golog_semantics.specs.Search.{is_followed}
use Rattle.golog_search.proofs.block_steps.is_within.Given as goal

-- the ways still to be looked at decide
abbrev pub invariant-loop-way : goal.invariant-loop-way
invariant-loop-way l = list_all is_followed l.run ≡ list_all is_followed (drop l.way-index l.run)
