-- The steps of a program that holds and reaches no block.
use Rattle.std.specs.Prelude.{List}
use Rattle.golog_tree.specs.declared.agent.Agent.{Agent}
use Rattle.golog_tree.specs.declared.prog.Prog.{Prog}
use Rattle.golog_semantics.specs.declared.Mode.{Mode}
use Rattle.golog_semantics.specs.declared.search.Move.{Move}
use Rattle.golog_semantics.specs.Truth.{Values}
use Rattle.golog_semantics.specs.Search.{moves_with, no_blocks}

-- the steps, where no block has any
unfoldable pub plain_moves : Agent → Values → Mode → Prog → List Move
plain_moves agent values m p = moves_with agent no_blocks values m p
