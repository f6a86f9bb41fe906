-- What a program does next at the values that are known, whatever stands in the journal.
use Rattle.std.specs.Prelude.{◌≡◌, ◌⊎◌, Bool, true, not, ◌||◌, nat_lt, if◌then◌else◌, IsTrue, Option, Some, None, List, [], ◌∷◌}
use Rattle.std.specs.Option.{option_map}
use Rattle.golog_tree.specs.declared.agent.Agent.{Agent}
use Rattle.golog_tree.specs.declared.prog.Prog.{Prog}
use Rattle.golog_tree.specs.Nest.{nest}
use Rattle.golog_semantics.specs.declared.Mode.TheVariants.{Must, May, Near}
use Rattle.golog_semantics.specs.declared.search.Move.{Move}
use Rattle.golog_semantics.specs.Truth.{Values}
use Rattle.golog_semantics.specs.Ways.{is_empty}
use Rattle.golog_semantics.specs.Search.{final, nest_limit}
use Rattle.golog_semantics.specs.Blocks.{moves}
use Rattle.golog_semantics.specs.Heavy.{heavy}
use Rattle.golog_ways.specs.First.{head_of}
use Rattle.golog_search.specs.declared.decision.Blocked.{Blocked}
use Rattle.golog_search.specs.declared.decision.Blocked.TheVariants.{Unknown, Depth, Stuck}
use Rattle.golog_search.specs.declared.decision.Decision.{Decision}
use Rattle.golog_search.specs.declared.decision.Decision.TheVariants.{Final, Step, Blocked as Blocking, Fuel, Deep}

-- the step, unless its left nests too deep
abbrev pub stepping : Move → Decision
stepping m = if nat_lt nest_limit (nest m.left) then Deep else Step m

module _ (agent : Agent) (values : Values) (p : Prog) where
  -- Why the program goes no further. It is unknown where it might step or end, were more known; the depth
  -- where a step is possible only beyond what the searches looked at; and else the program is stuck.
  abbrev pub blocked : Blocked
  blocked =
      if not (is_empty (moves agent values Near p)) || final agent values Near p then Unknown
      else if not (is_empty (moves agent values May p)) then Depth else Stuck

  -- the first of these steps
  abbrev pub along : List Move → Decision
  along [] = Blocking blocked
  along (m ∷ ms) = stepping m

  -- the program ends where that is certain, and else takes the first certain step
  unfoldable pub decision : Decision
  decision = if final agent values Must p then Final else along (moves agent values Must p)

  -- the end or the first step, where one is certain
  unfoldable pub ahead : Option Decision
  ahead =
      if final agent values Must p then Some Final else option_map stepping (head_of (moves agent values Must p))

  -- searches that are bounded by the fuel of their blocks want more, and the program is heavy
  abbrev pub LacksFuel : Bool → Decision → Type 0
  LacksFuel bounded d = (bounded ≡ true) × (d ≡ Fuel) × IsTrue (heavy agent values p)

  -- what the program does next, unless its blocks lack fuel
  abbrev pub IsDecided : Bool → Decision → Type 0
  IsDecided bounded d = (d ≡ decision) ⊎ LacksFuel bounded d

  -- the end or the first step, where one is certain, unless its blocks lack fuel
  abbrev pub IsAhead : Bool → Option Decision → Type 0
  IsAhead bounded None = None ≡ ahead
  IsAhead bounded (Some d) = (Some d ≡ ahead) ⊎ LacksFuel bounded d
