-- The search blocks that a program may reach without a step, and when their work is above their fuel.
-- (This project's own.)
use Rattle.std.specs.Prelude.{ℕ, zero, suc, Bool, true, false, not, ◌&&◌, ◌||◌, nat_lt, if◌then◌else◌, List, [], ◌∷◌, ◌++◌}
use Rattle.std.specs.List.{list_any, flat_map}
use Rattle.golog_tree.specs.declared.agent.Agent.{Agent}
use Rattle.golog_tree.specs.declared.prog.Prog.{Prog}
use Rattle.golog_tree.specs.declared.prog.Prog.TheOpen.{Nil, Act, Test, Seq, Choice, Pick, Star, If, While, Conc, Prio, Cstar, Call, Search, Follow}
use Rattle.golog_tree.specs.declared.prog.Prog.TheViews.{out-Prog}
use Rattle.golog_semantics.specs.declared.Mode.{Mode}
use Rattle.golog_semantics.specs.declared.Mode.TheVariants.{Must, Near}
use Rattle.golog_semantics.specs.declared.search.Block.{Block}
use Rattle.golog_semantics.specs.Truth.{Values, constants}
use Rattle.golog_semantics.specs.Program.{put_arg, body_of}
use Rattle.golog_tree.specs.Tidy.{Layer}
use Rattle.golog_semantics.specs.Guarded.{front}
use Rattle.golog_semantics.specs.Ways.{is_empty}
use Rattle.golog_semantics.specs.Search.{final}
use Rattle.golog_semantics.specs.Blocks.{is_kept, moves, work}

-- a block at the front, and whether it stands in the higher part of a `prio`
pub record Reached : Type 0 where
  pub block : Block
  pub is_higher : Bool

-- a block that is reached
abbrev pub block_reached : ℕ → ℕ → Prog → Bool → List Reached
block_reached depth fuel body higher =
    record { block = record { depth = depth; fuel = fuel; body = body }; is_higher = higher } ∷ []

module _ (agent : Agent) (values : Values) where
  -- the blocks at the front of a program, given those of smaller programs
  abbrev pub blocks_step : (Bool → Prog → List Reached) → Bool → Layer → List Reached
  blocks_step blocks higher Nil = []
  blocks_step blocks higher (Act action args) = []
  blocks_step blocks higher (Test c) = []
  blocks_step blocks higher (Seq p q) =
      blocks higher p ++ (if (front agent p).skip then blocks higher q else [])
  blocks_step blocks higher (Choice p q) = blocks higher p ++ blocks higher q
  blocks_step blocks higher (Pick x sort p) =
      flat_map (λ c. blocks higher (put_arg p x c)) (constants agent sort)
  blocks_step blocks higher (Star p) = blocks higher p
  blocks_step blocks higher (If c p q) = blocks higher p ++ blocks higher q
  blocks_step blocks higher (While c p) = blocks higher p
  blocks_step blocks higher (Conc p q) = blocks higher p ++ blocks higher q
  blocks_step blocks higher (Prio p q) = blocks true p ++ blocks higher q
  blocks_step blocks higher (Cstar p) = blocks higher p
  blocks_step blocks higher (Call item args) = blocks higher (body_of agent item args)
  blocks_step blocks higher (Search depth fuel p) = block_reached depth fuel p higher
  blocks_step blocks higher (Follow depth fuel p rest) =
      if is_kept agent values p rest then [] else block_reached depth fuel p higher

  -- the blocks at the front, looking at most so deep into parts and calls
  abbrev pub blocks_to : ℕ → Bool → Prog → List Reached
  blocks_to zero higher p = []
  blocks_to (suc n) higher p = blocks_step (blocks_to n) higher (out-Prog p)

  -- the blocks at the front: where a call would be reached without a step, a kept run being none
  abbrev pub front_blocks : Prog → List Reached
  front_blocks p = blocks_to (front agent p).height false p

  -- the work of a block is above its fuel
  abbrev pub is_above : Mode → Block → Bool
  is_above m block = nat_lt block.fuel (work agent m block.depth block.body values)

  -- this block may keep the program from an answer
  abbrev pub weighs : Prog → Reached → Bool
  weighs p at =
      is_above Must at.block
      || (is_above Near at.block && (is_empty (moves agent values Must p) || at.is_higher))

  -- some block at the front may want more than its fuel
  unfoldable pub heavy : Prog → Bool
  heavy p = not (final agent values Must p) && list_any (weighs p) (front_blocks p)
