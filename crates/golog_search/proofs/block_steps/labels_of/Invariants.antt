use Rattle.std.proofs.Common.{◌≡◌, take}
use Rattle.golog_semantics.specs.Blocks.{labels_of}
use Rattle.golog_search.proofs.block_steps.labels_of.Given as goal

-- what the ways so far do
abbrev pub invariant-loop-way : goal.invariant-loop-way
invariant-loop-way l = l.labels ≡ labels_of (take l.way-index l.run)
