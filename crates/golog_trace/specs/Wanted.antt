-- What the search blocks at the front of a program want: fuel, knowledge or depth.
use Rattle.std.specs.Prelude.{ℕ, Bool, true, false, if◌then◌else◌, Option, Some, None, List, [], ◌∷◌, ◌++◌, codes, decimal, unwrap_or}
use Rattle.std.specs.List.{flat_map}
use Rattle.golog_tree.specs.declared.agent.Agent.{Agent}
use Rattle.golog_tree.specs.declared.prog.Prog.{Prog}
use Rattle.golog_tree.specs.declared.prog.Way.{Way}
use Rattle.golog_semantics.specs.declared.Mode.TheVariants.{Must, Near}
use Rattle.golog_semantics.specs.declared.search.Block.{Block}
use Rattle.golog_semantics.specs.Blocks.{is_kept}
use Rattle.golog_semantics.specs.Heavy.{Reached}
use Rattle.golog_semantics.specs.Text.{Text}
use Rattle.golog_semantics.specs.Truth.{Values}
use Rattle.golog_find.specs.declared.found.Found.{Found}
use Rattle.golog_find.specs.declared.found.Found.TheVariants.{Absent, Fuel as WantsFuel, Run as Runs}
use Rattle.golog_find.specs.Finding.{found}
use Rattle.golog_search.specs.Weighing.{blocks_at}
use Rattle.golog_print.specs.Printing.{text_of_prog}
use Rattle.golog_trace.specs.declared.wanted.Want.{Want}
use Rattle.golog_trace.specs.declared.wanted.Want.TheVariants.{Nothing, Fuel, Knowledge, Depth, Another}

-- what a block wants, by the search for a certain run, if that tells
abbrev pub certain_want : Found → Option Want
certain_want (Runs run) = Some Nothing
certain_want WantsFuel = Some Fuel
certain_want (Absent cut) = None

-- what a block without a certain run wants, by the search for a run that there may be were more known
abbrev pub near_want : Found → Want
near_want (Runs run) = Knowledge
near_want WantsFuel = Fuel
near_want (Absent cut) = if cut then Depth else Another

-- the words for that
abbrev pub want_words : Want → Text
want_words Nothing = codes "finds a run"
want_words Fuel = codes "wants fuel"
want_words Knowledge = codes "wants knowledge"
want_words Depth = codes "wants depth"
want_words Another = codes "has no run"

module _ (agent : Agent) (values : Values) where
  -- what a block wants at these values
  abbrev pub want_of : Block → Want
  want_of block = unwrap_or (certain_want (found agent values Must block)) (near_want (found agent values Near block))

  -- a block, and what it wants
  abbrev pub block_text : Block → Text
  block_text block =
      codes "search " ++ decimal block.depth ++ codes " " ++ decimal block.fuel ++ codes " "
      ++ text_of_prog agent block.body ++ codes " " ++ want_words (want_of block) ++ 10 ∷ []

  -- a block that is reached
  abbrev pub reached_text : Reached → Text
  reached_text at = block_text at.block

  -- a block that is reached, unless it follows a run that goes through, when it is none
  abbrev pub unless_kept : Block → List Way → Text
  unless_kept block rest = if is_kept agent values block.body rest then [] else block_text block

  -- the blocks at the front of a program, which stands in the higher part of a `prio` or does not
  unfoldable pub blocks_text : Bool → Prog → Text
  blocks_text higher p = flat_map reached_text (blocks_at agent values higher p)
