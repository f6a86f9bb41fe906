-- Which search blocks at the front of a program may keep it from an answer.
use Rattle.std.specs.Prelude.{Bool, true, false, ◌&&◌, ◌||◌, if◌then◌else◌, List}
use Rattle.std.specs.List.{list_any}
use Rattle.golog_tree.specs.declared.agent.Agent.{Agent}
use Rattle.golog_tree.specs.declared.prog.Prog.{Prog}
use Rattle.golog_tree.specs.declared.prog.Way.{Way}
use Rattle.golog_semantics.specs.declared.Mode.TheVariants.{Must, Near}
use Rattle.golog_semantics.specs.declared.search.Block.{Block}
use Rattle.golog_semantics.specs.Truth.{Values}
use Rattle.golog_semantics.specs.Guarded.{front}
use Rattle.golog_semantics.specs.Blocks.{is_kept}
use Rattle.golog_semantics.specs.Heavy.{Reached, blocks_to, is_above}
use Rattle.golog_find.specs.declared.found.Found.{Found}
use Rattle.golog_find.specs.declared.found.Found.TheVariants.{Absent, Fuel, Run as Runs}

-- the search wants more than the fuel
abbrev pub lacks_fuel : Found → Bool
lacks_fuel (Runs run) = false
lacks_fuel (Absent cut) = false
lacks_fuel Fuel = true

module _ (agent : Agent) (values : Values) where
  -- A block weighs where the search for a certain run wants more than the fuel. So it does where the search
  -- for any run wants more, if the program is stepless, which is to say has no certain step, or if the block
  -- stands in the higher part of a `prio`.
  abbrev pub weighs_by : Bool → Reached → Bool
  weighs_by stepless at =
      is_above agent values Must at.block
      || (is_above agent values Near at.block && (stepless || at.is_higher))

  -- so does a block under way, unless the run that it follows is kept
  abbrev pub weighs_unless_kept : Bool → Bool → Block → List Way → Bool
  weighs_unless_kept stepless higher block rest =
      if is_kept agent values block.body rest then false
      else weighs_by stepless (record { block = block; is_higher = higher })

  -- the blocks at the front of a program, which stands in the higher part of a `prio` or does not
  abbrev pub blocks_at : Bool → Prog → List Reached
  blocks_at higher p = blocks_to agent values (front agent p).height higher p

  -- one of them weighs
  unfoldable pub some_weighs : Bool → Bool → Prog → Bool
  some_weighs stepless higher p = list_any (weighs_by stepless) (blocks_at higher p)
