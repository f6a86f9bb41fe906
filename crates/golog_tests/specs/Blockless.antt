-- Agents without search blocks.
use Rattle.std.specs.Prelude.{Bool, not, ◌||◌, IsTrue, []}
use Rattle.std.specs.List.{list_any}
use Rattle.golog_tree.specs.declared.agent.Agent.{Agent}
use Rattle.golog_tree.specs.declared.agent.ProcItem.{ProcItem}
use Rattle.golog_tree.specs.declared.prog.Prog.{Prog}
use Rattle.golog_semantics.specs.BlockFree.{has_block, has_block_by}

-- a search block stands in the program itself
abbrev pub holds_block : Prog → Bool
holds_block = has_block_by []

-- a search block stands in one of the programs of the agent
abbrev pub has_blocks : Agent → Bool
has_blocks agent =
    holds_block agent.main || list_any (λ (item : ProcItem). holds_block item.body) agent.procs

-- no search block is held or reached by the program
abbrev pub IsBlockless : Agent → Type 0
IsBlockless agent = IsTrue (not (has_block agent agent.main))
