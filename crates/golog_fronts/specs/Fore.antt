-- What a program begins with.
use Rattle.std.specs.Prelude.{◌≡◌, ℕ}
use Rattle.golog_tree.specs.declared.agent.Agent.{Agent}
use Rattle.golog_tree.specs.declared.prog.Prog.{Prog}
use Rattle.golog_semantics.specs.Guarded.{front, front_at, proc_fronts}
use Rattle.golog_semantics.specs.BlockFree.{block_at}
use Rattle.golog_fronts.specs.declared.blocks.Fore.{Fore}
use Rattle.golog_fronts.specs.FrontBlock.{front_blocks, has_front_block}

-- whether the program may be skipped, and whether a block stands at its front
pub record IsFore (agent : Agent) (p : Prog) (f : Fore) : Type 0 where
  pub skip : f.skip ≡ (front agent p).skip
  pub block : f.block ≡ has_front_block agent p

-- the same of two programs
pub record AreFores (agent : Agent) (p q : Prog) (f g : Fore) : Type 0 where
  pub one : IsFore agent p f
  pub other : IsFore agent q g

-- the same of a call of a procedure
pub record IsCallFore (agent : Agent) (item : ℕ) (f : Fore) : Type 0 where
  pub skip : f.skip ≡ (front_at (proc_fronts agent) item).skip
  pub block : f.block ≡ block_at (front_blocks agent) item
