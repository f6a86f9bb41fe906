-- The first certain step of a program, and whether it has a step in a mode.
use Rattle.std.specs.Prelude.{Bool, not, Option, Some, None, List, [], ◌∷◌}
use Rattle.golog_tree.specs.declared.agent.Agent.{Agent}
use Rattle.golog_tree.specs.declared.prog.Prog.{Prog}
use Rattle.golog_tree.specs.declared.prog.Way.{Way}
use Rattle.golog_semantics.specs.declared.Mode.{Mode}
use Rattle.golog_semantics.specs.declared.Mode.TheVariants.{Must}
use Rattle.golog_semantics.specs.Truth.{Values}
use Rattle.golog_semantics.specs.Ways.{is_empty}
use Rattle.golog_semantics.specs.Search.{plain_ways}

-- the first item, where there is one
abbrev pub head_of : {A : Type 0} → List A → Option A
head_of [] = None
head_of (x ∷ xs) = Some x

-- the first of the certain steps
unfoldable pub first_way : Agent → Values → Prog → Option Way
first_way agent values p = head_of (plain_ways agent values Must p)

-- whether the program has a step in a mode
unfoldable pub has_way : Agent → Values → Mode → Prog → Bool
has_way agent values m p = not (is_empty (plain_ways agent values m p))
