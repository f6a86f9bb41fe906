-- Programs with a search block at their front, where they may take a step of the block first.
use Rattle.std.specs.Prelude.{◌≡◌, ℕ, zero, suc, Bool, true, false, ◌&&◌, ◌||◌, List, [], length, map}
use Rattle.golog_tree.specs.declared.agent.Agent.{Agent}
use Rattle.golog_tree.specs.declared.prog.Prog.{Prog}
use Rattle.golog_tree.specs.declared.prog.Prog.TheOpen.{Prog-F, Nil, Act, Test, Seq, Choice, Pick, Star, If, While, Conc, Prio, Cstar, Call, Search, Follow}
use Rattle.golog_tree.specs.declared.prog.Prog.TheFolds.{fold-Prog, map-Prog}
use Rattle.golog_semantics.specs.Truth.{Values}
use Rattle.golog_semantics.specs.Heavy.{front_blocks as reached_blocks}
use Rattle.golog_semantics.specs.Guarded.{Front, no_front, front_step, proc_fronts}
use Rattle.golog_semantics.specs.BlockFree.{block_at}

-- the front of a program, and whether a block stands there
pub record Fronted : Type 0 where
  pub front : Front
  pub block : Bool

-- Whether a block stands at the front, given this of the parts and of the procedures. A second part counts
-- only where the first may be skipped, and a call counts as the body.
abbrev pub front_block_step : List Bool → Prog-F Fronted Fronted → Bool
front_block_step procs Nil = false
front_block_step procs (Act action args) = false
front_block_step procs (Test c) = false
front_block_step procs (Seq p q) = p.block || (p.front.skip && q.block)
front_block_step procs (Choice p q) = p.block || q.block
front_block_step procs (Pick x sort p) = p.block
front_block_step procs (Star p) = p.block
front_block_step procs (If c p q) = p.block || q.block
front_block_step procs (While c p) = p.block
front_block_step procs (Conc p q) = p.block || q.block
front_block_step procs (Prio p q) = p.block || q.block
front_block_step procs (Cstar p) = p.block
front_block_step procs (Call item args) = block_at procs item
front_block_step procs (Search depth fuel p) = true
front_block_step procs (Follow depth fuel p rest) = true

-- both, given those of the parts
abbrev pub fronted_step : List Front → List Bool → Prog-F Fronted Fronted → Fronted
fronted_step fronts procs l = record {
  front = front_step fronts (map-Prog Fronted Fronted Front Front (λ f. f.front) (λ f. f.front) l);
  block = front_block_step procs l;
}

-- both, by those of the procedures
abbrev pub fronted : List Front → List Bool → Prog → Fronted
fronted fronts procs =
    fold-Prog Fronted Fronted (fronted_step fronts procs) (λ w. record { front = no_front; block = false })

-- whether a block stands at the front of each procedure, looking through so many calls
abbrev pub front_blocks_to : ℕ → Agent → List Bool
front_blocks_to zero agent = map (λ item. false) agent.procs
front_blocks_to (suc k) agent =
    map (λ item. (fronted (proc_fronts agent) (front_blocks_to k agent) item.body).block) agent.procs

-- the procedures with a block at their front, calls that are reached without a step included
unfoldable pub front_blocks : Agent → List Bool
front_blocks agent = front_blocks_to (length agent.procs) agent

-- a search block stands at the front of the program, or of a procedure that it may call without a step
abbrev pub has_front_block : Agent → Prog → Bool
has_front_block agent p = (fronted (proc_fronts agent) (front_blocks agent) p).block

-- where no block stands at the front, no block is reached without a step, so none can want more than its fuel
abbrev pub NoneIsReached : Type 0
NoneIsReached =
    (agent : Agent) (values : Values) (p : Prog)
    → has_front_block agent p ≡ false → reached_blocks agent values p ≡ []
