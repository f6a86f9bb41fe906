-- What the search of a block comes to.
--
-- That a search block looks for a run that leads to Final is De Giacomo and Levesque's (1999). The least
-- length, the depth, the fuel, and what is told where there is no run are this project's own.
use Rattle.std.specs.Prelude.{Bool, true, ◌&&◌, nat_lt, if◌then◌else◌, Option, Some, None}
use Rattle.golog_tree.specs.declared.agent.Agent.{Agent}
use Rattle.golog_semantics.specs.declared.Mode.{Mode}
use Rattle.golog_semantics.specs.declared.Mode.TheVariants.{Must, Near}
use Rattle.golog_semantics.specs.declared.search.Block.{Block}
use Rattle.golog_semantics.specs.Truth.{Values}
use Rattle.golog_semantics.specs.Search.{Run, best}
use Rattle.golog_semantics.specs.Blocks.{is_cut, work}
use Rattle.golog_find.specs.declared.found.Found.{Found}
use Rattle.golog_find.specs.declared.found.Found.TheVariants.{Absent, Fuel, Run as Runs}

-- the mode in which runs are looked for: certain ones, or those that there may be were more known
abbrev pub mode_of : Bool → Mode
mode_of certain = if certain then Must else Near

-- the run, where there is one, and else whether something stayed unseen
abbrev pub run_or : Bool → Option Run → Found
run_or cut (Some run) = Runs run
run_or cut None = Absent cut

-- The search of a block that is bounded by its fuel wants more than that where its work is above it. Else it
-- finds the first run of least length, where there is one of at least one and at most as many ways as the
-- depth.
unfoldable pub found_by : Bool → Agent → Values → Mode → Block → Found
found_by bounded agent values m block =
    if bounded && nat_lt block.fuel (work agent m block.depth block.body values) then Fuel
    else run_or (is_cut agent m block.depth block.body values) (best agent m block.depth block.body values)

-- the search within the fuel of the block
abbrev pub found : Agent → Values → Mode → Block → Found
found = found_by true
