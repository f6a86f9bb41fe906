-- The steps of one search block, as far as its fuel suffices.
use Rattle.std.specs.Prelude.{◌≡◌, Bool, not, ◌&&◌, if◌then◌else◌}
use Rattle.golog_tree.specs.declared.agent.Agent.{Agent}
use Rattle.golog_semantics.specs.declared.Mode.{Mode}
use Rattle.golog_semantics.specs.declared.Mode.TheVariants.{Must, May, Near}
use Rattle.golog_semantics.specs.declared.search.Block.{Block}
use Rattle.golog_semantics.specs.Truth.{Values}
use Rattle.golog_semantics.specs.Ways.{is_empty}
use Rattle.golog_semantics.specs.Search.{Run}
use Rattle.golog_semantics.specs.Blocks.{block_moves, is_kept}
use Rattle.golog_semantics.specs.Heavy.{is_above}
use Rattle.golog_semantics.specs.InSorts.{AreInSorts}
use Rattle.golog_semantics.specs.WellFormed.{WellFormed}
use Rattle.golog_ways.specs.declared.reaches.Reach.{Reach}
use Rattle.golog_ways.specs.First.{head_of}
use Rattle.golog_search.specs.declared.reach.FirstStep.{FirstStep}
use Rattle.golog_search.specs.declared.reach.FirstStep.TheVariants as first
use Rattle.golog_search.specs.declared.reach.NearStep.{NearStep}
use Rattle.golog_search.specs.declared.reach.NearStep.TheVariants as near

-- whether the block has a step in the mode
abbrev pub has_step : Agent → Values → Mode → Block → Run → Bool
has_step agent values m block rest =
    not (is_empty (block_moves agent values m block.depth block.fuel block.body rest))

-- the reach is that of the block in Near and in May, and in Must it is this
pub record AreNear
    (agent : Agent) (values : Values) (block : Block) (rest : Run) (must : Bool) (r : Reach) : Type 0 where
  pub certain : r.must ≡ must
  pub near : r.near ≡ has_step agent values Near block rest
  pub may : r.may ≡ has_step agent values May block rest

-- a search of the block in the mode, bounded by its fuel, wants more, and no run is kept
abbrev pub wants_more : Bool → Agent → Values → Mode → Block → Run → Bool
wants_more bounded agent values m block rest =
    not (is_kept agent values block.body rest) && (bounded && is_above agent values m block)

-- The first certain step of a block that follows a run: along it where it is kept, and else the one that
-- begins the best run, unless the search for that wants more than the block's fuel.
unfoldable pub first_of_block : Bool → Agent → Values → Block → Run → FirstStep
first_of_block bounded agent values block rest =
    if wants_more bounded agent values Must block rest then first.Fuel
    else first.Step (head_of (block_moves agent values Must block.depth block.fuel block.body rest))

-- whether the block has a step in Near and whether in May, unless the search for one wants more than the
-- block's fuel
unfoldable pub near_of_block : Bool → Agent → Values → Block → Run → NearStep
near_of_block bounded agent values block rest =
    if bounded && is_above agent values Near block then near.Fuel
    else near.Steps (has_step agent values Near block rest) (has_step agent values May block rest)

-- the values of a well-formed agent that are in their sorts, and that a search is given as a state
pub record IsSearchedIn (agent : Agent) (values state : Values) : Type 0 where
  pub formed : WellFormed agent
  pub sorts : AreInSorts agent values
  pub same : values ≡ state
