-- Programs without search blocks, whose steps can be followed one by one.
use Rattle.std.specs.Prelude.{not, IsTrue}
use Rattle.golog_tree.specs.declared.agent.Agent.{Agent}
use Rattle.golog_tree.specs.declared.prog.Prog.{Prog}
use Rattle.golog_semantics.specs.Truth.{Values}
use Rattle.golog_semantics.specs.BlockFree.{has_block}
use Rattle.golog_semantics.specs.ProgFits.{fits}
use Rattle.golog_semantics.specs.InSorts.{AreInSorts}

-- a program that a search of an agent may reach, and the values there: it stays inside the agent, has no
-- block, and the values are in their sorts
pub record IsSearched (agent : Agent) (p : Prog) (values : Values) : Type 0 where
  pub program : IsTrue (fits agent p)
  pub blockless : IsTrue (not (has_block agent p))
  pub sorts : AreInSorts agent values
