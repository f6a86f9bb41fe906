-- What a walk over programs answers where it stands, at an agent and values and with whoever tells the steps of
-- search blocks there.
use Rattle.std.specs.Prelude.{true, false, Option}
use Rattle.golog_tree.specs.declared.agent.Agent.{Agent}
use Rattle.golog_tree.specs.declared.cond.Truth.{Truth}
use Rattle.golog_tree.specs.declared.prog.Prog.{Prog}
use Rattle.golog_semantics.specs.declared.Mode.{Mode}
use Rattle.golog_semantics.specs.declared.search.Move.{Move}
use Rattle.golog_semantics.specs.Truth.{Values}
use Rattle.golog_semantics.specs.Ways.{Blocks}
use Rattle.golog_ways.specs.declared.answering.Stop.{Stop}
use Rattle.golog_ways.specs.declared.here.Within.{Within}
use Rattle.golog_ways.specs.declared.reaches.Reach.{Reach}
use Rattle.golog_ways.specs.FirstMove.{IsFirst}
use Rattle.golog_ways.specs.Lacking.{StopsAt, StopsAtEither, Wants}
use Rattle.golog_ways.specs.Reach.{IsReach, IsReachOfEither, IsReachOr}

-- what has to be known of the agent and of the values is known
abbrev pub IsReadyWithin : {B : Type 0} → (B → Agent → Values → Type 0) → Within B → Type 0
IsReadyWithin ready within = ready within.blocks.now within.here.agent.now within.here.values.now

module _ {B : Type 0} (moves : B → Agent → Values → Blocks) (within : Within B) where
  -- the steps of search blocks there
  abbrev pub moves_within : Blocks
  moves_within = moves within.blocks.now within.here.agent.now within.here.values.now

  -- this is the first of the certain steps of the program
  abbrev pub IsFirstWithin : Prog → Option Move → Type 0
  IsFirstWithin = IsFirst within.here.agent.now moves_within within.here.values.now

  -- the reach of the program
  abbrev pub IsReachWithin : Prog → Reach → Type 0
  IsReachWithin = IsReach within.here.agent.now moves_within within.here.values.now

  -- the reach of one program or of another
  abbrev pub IsReachOfEitherWithin : Prog → Prog → Reach → Type 0
  IsReachOfEitherWithin = IsReachOfEither within.here.agent.now moves_within within.here.values.now

  -- the reach so far, or that of the program where a condition of this truth holds
  abbrev pub IsReachOrWithin : Reach → Truth → Prog → Reach → Type 0
  IsReachOrWithin = IsReachOr within.here.agent.now moves_within within.here.values.now

module _ {B : Type 0} (wants : B → Agent → Values → Mode → Wants) (within : Within B) where
  -- which blocks want more than their fuel in a mode
  abbrev pub wants_within : Mode → Wants
  wants_within = wants within.blocks.now within.here.agent.now within.here.values.now

  -- a search for the first certain step that stopped for want of fuel tells that some block at the front lacks it
  abbrev pub FirstStops : Prog → Stop → Type 0
  FirstStops = StopsAt within.here.agent.now wants_within false

  -- the same of a search for the reach, where a block may also lack it as one in the higher part of a `prio` does
  abbrev pub ReachStops : Prog → Stop → Type 0
  ReachStops = StopsAt within.here.agent.now wants_within true

  -- the same of a search for the reach of one of two programs
  abbrev pub ReachStopsAtEither : Prog → Prog → Stop → Type 0
  ReachStopsAtEither = StopsAtEither within.here.agent.now wants_within true
