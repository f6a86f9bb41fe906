use Rattle.std.proofs.Common.{false}
use Rattle.golog_search.specs.Weighing.{some_weighs}
use Rattle.golog_search.proofs.weighing.some_block_weighs.Goals as goal

pub some_weighs-requires-clause-closed : goal.some_weighs-requires-clause-closed
some_weighs-requires-clause-closed c = record { in_block = false; fits = c.requires.program }

pub returns : goal.returns
unfolding some_weighs
returns c = c.some_weighs.ensures
