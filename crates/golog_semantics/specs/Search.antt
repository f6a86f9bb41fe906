-- Final, the ways of programs without blocks, runs of such ways, and the best run.
use Rattle.std.specs.Prelude.{ℕ, zero, suc, ◌+◌, Bool, nat_le, if◌then◌else◌, Option, Some, None, List, [], ◌∷◌, map, filter}
use Rattle.std.specs.List.{flat_map}
use Rattle.golog_tree.specs.declared.agent.Agent.{Agent}
use Rattle.golog_tree.specs.declared.prog.Prog.{Prog}
use Rattle.golog_tree.specs.declared.prog.Way.{Way}
use Rattle.golog_tree.specs.Nest.{nest}
use Rattle.golog_semantics.specs.declared.Mode.{Mode}
use Rattle.golog_semantics.specs.Truth.{Values}
use Rattle.golog_semantics.specs.Values.{after}
use Rattle.golog_semantics.specs.Ways.{Blocks, final_to, moves_to, way_of}
use Rattle.golog_semantics.specs.declared.search.Move.{Move}
use Rattle.golog_semantics.specs.Guarded.{front}

-- the deepest nest of a program left
abbrev pub nest_limit : ℕ
nest_limit = 2048

-- a step whose left is no deeper may be followed in a run
abbrev pub is_followed : Way → Bool
is_followed w = nat_le (nest w.left) nest_limit

-- a program may end: Final, looking as deep as the program leads without a step
unfoldable pub final : Agent → Values → Mode → Prog → Bool
final agent values m p = final_to agent values (front agent p).height m p

-- the steps of a program, given those of blocks, looking as deep as the program leads without a step
abbrev pub moves_with : Agent → Blocks → Values → Mode → Prog → List Move
moves_with agent blocks values m p = moves_to agent values blocks (front agent p).height m p

-- no block stands in the body of a block
abbrev pub no_blocks : Blocks
no_blocks m depth fuel body rest = []

-- the ways of a program that holds and reaches no block
unfoldable pub plain_ways : Agent → Values → Mode → Prog → List Way
plain_ways agent values m p = map way_of (moves_with agent no_blocks values m p)

-- a run: ways, each from the left before it
abbrev pub Run : Type 0
Run = List Way

-- The runs of exactly so many ways, in order: a run of none stands where the program may end, and a longer
-- one is a way that is followed and a run from what it leaves, at the values after it.
unfoldable pub runs : Agent → Mode → ℕ → Prog → Values → List Run
runs agent m zero p values = if final agent values m p then [] ∷ [] else []
runs agent m (suc n) p values =
    flat_map
    (λ w. map (λ r. w ∷ r) (runs agent m n w.left (after agent values w.label)))
    (filter is_followed (plain_ways agent values m p))

-- the first of these runs, where there is one
abbrev pub first_of : List Run → Option Run → Option Run
first_of [] later = later
first_of (r ∷ rs) later = Some r

-- the first run of the least of so many lengths from this one on
abbrev pub best_from : Agent → Mode → ℕ → ℕ → Prog → Values → Option Run
best_from agent m n zero p values = None
best_from agent m n (suc more) p values =
    first_of (runs agent m n p values) (best_from agent m (n + 1) more p values)

-- the first run of least length of at least one and at most depth ways
unfoldable pub best : Agent → Mode → ℕ → Prog → Values → Option Run
best agent m depth = best_from agent m 1 depth
