-- The first certain step of a program, where a search block's own steps are told by whoever looks for them.
use Rattle.std.specs.Prelude.{◌≡◌, Option}
use Rattle.std.specs.Option.{option_map}
use Rattle.golog_tree.specs.declared.agent.Agent.{Agent}
use Rattle.golog_tree.specs.declared.prog.Prog.{Prog}
use Rattle.golog_semantics.specs.declared.Mode.TheVariants.{Must}
use Rattle.golog_semantics.specs.declared.search.Move.{Move}
use Rattle.golog_semantics.specs.Truth.{Values}
use Rattle.golog_semantics.specs.Ways.{Blocks}
use Rattle.golog_semantics.specs.Search.{moves_with}
use Rattle.golog_ways.specs.First.{head_of}

-- the first of the certain steps, given those of blocks
unfoldable pub first_move : Agent → Blocks → Values → Prog → Option Move
first_move agent blocks values p = head_of (moves_with agent blocks values Must p)

-- this is the first of the certain steps
abbrev pub IsFirst : Agent → Blocks → Values → Prog → Option Move → Type 0
IsFirst agent blocks values p found = found ≡ first_move agent blocks values p

-- a step with its left put into a context, and with the run that it begins
abbrev pub move_in : (Prog → Prog) → Move → Move
move_in context m = record { label = m.label; left = context m.left; run = m.run }

-- the same, where there is a step
abbrev pub moved_in : (Prog → Prog) → Option Move → Option Move
moved_in context m = option_map (move_in context) m
