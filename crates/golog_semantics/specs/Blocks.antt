-- The steps of search blocks, the steps of any program, and the work of a search.
--
-- A search block takes a step only along a run that leads to Final (De Giacomo and Levesque 1999), and goes
-- on along the run that it has begun (the IndiGolog chapter, 2009). That it takes the first run of least
-- length, within a depth, that a run is kept exactly as long as it goes through from the present values, and
-- what a block may do where some values are unknown, is this project's own.
use Rattle.std.specs.Prelude.{ℕ, zero, suc, Bool, true, false, not, ◌&&◌, ◌||◌, if◌then◌else◌, Option, Some, None, List, [], ◌∷◌, length, map, filter, sum_by, unwrap_or}
use Rattle.std.specs.List.{list_any, flat_map, range_with_len}
use Rattle.golog_tree.specs.declared.agent.Agent.{Agent}
use Rattle.golog_tree.specs.declared.prog.Prog.{Prog}
use Rattle.golog_tree.specs.declared.prog.Prog.TheVariants as prog
use Rattle.golog_tree.specs.declared.prog.Way.{Way}
use Rattle.golog_semantics.specs.declared.Mode.{Mode}
use Rattle.golog_semantics.specs.declared.Mode.TheVariants.{Must, May, Near}
use Rattle.golog_semantics.specs.Truth.{Values}
use Rattle.golog_semantics.specs.Values.{after}
use Rattle.golog_tree.specs.declared.prog.Label.{Label}
use Rattle.golog_semantics.specs.declared.search.Move.{Move}
use Rattle.golog_semantics.specs.Ways.{Blocks, is_empty, plain_move, way_of}
use Rattle.golog_semantics.specs.Search.{Run, final, moves_with, plain_ways, is_followed, runs, best}
use Rattle.golog_semantics.specs.Same.{same_way, same_prog, same_values}

-- a run goes through to Final from these values
abbrev pub goes_through : Agent → Prog → Run → Values → Bool
goes_through agent p [] values = final agent values Must p
goes_through agent p (w ∷ run) values =
    list_any (same_way w) (plain_ways agent values Must p)
    && goes_through agent w.left run (after agent values w.label)

-- what the steps of a run do
abbrev pub labels_of : Run → List Label
labels_of run = map (λ w. w.label) run

-- the first step of a run, whose left keeps the rest of it
abbrev pub first_step : ℕ → ℕ → Option (List Label) → Run → List Move
first_step depth fuel begun [] = []
first_step depth fuel begun (w ∷ rest) =
    record { label = w.label; left = prog.Follow depth fuel w.left rest; run = begun } ∷ []

-- the step along a run that is under way
abbrev pub going_on : ℕ → ℕ → Run → List Move
going_on depth fuel run = first_step depth fuel None run

-- the step that begins a run
abbrev pub beginning : ℕ → ℕ → Option Run → List Move
beginning depth fuel None = []
beginning depth fuel (Some run) = first_step depth fuel (Some (labels_of run)) run

-- some run is under way, and it goes through
abbrev pub is_kept : Agent → Values → Prog → Run → Bool
is_kept agent values body rest = not (is_empty rest) && goes_through agent body rest values

-- the certain step of a block: along the run that it follows, or else along the best one
abbrev pub certain : Agent → Values → ℕ → ℕ → Prog → Run → List Move
certain agent values depth fuel body rest =
    if is_kept agent values body rest then going_on depth fuel rest
    else beginning depth fuel (best agent Must depth body values)

-- a run of at most depth ways begins with this way
abbrev pub begins_run : Agent → Values → ℕ → Way → Bool
begins_run agent values depth w =
    let has_run = λ (n : ℕ). not (is_empty (runs agent Near n w.left (after agent values w.label))) in
    is_followed w && list_any has_run (range_with_len 0 depth)

-- some path of exactly so many ways
abbrev pub has_path : Agent → Mode → ℕ → Prog → Values → Bool
has_path agent m zero p values = true
has_path agent m (suc n) p values =
    list_any
    (λ w. is_followed w && has_path agent m n w.left (after agent values w.label))
    (plain_ways agent values m p)

-- a way that is cut by its nest, among the ways of a path of so many
abbrev pub meets_cut : Agent → Mode → ℕ → Prog → Values → Bool
meets_cut agent m zero p values = false
meets_cut agent m (suc n) p values =
    list_any
    (λ w. not (is_followed w) || meets_cut agent m n w.left (after agent values w.label))
    (plain_ways agent values m p)

-- a search within the depth leaves something unseen
abbrev pub is_cut : Agent → Mode → ℕ → Prog → Values → Bool
is_cut agent m depth p values = has_path agent m depth p values || meets_cut agent m depth p values

-- the search leaves something unseen after this way, within the depth
abbrev pub leaves_unseen : Agent → ℕ → Way → Values → Bool
leaves_unseen agent zero w values = false
leaves_unseen agent (suc n) w values = is_followed w && is_cut agent Near n w.left values

-- a run may begin with this way, or the search leaves unseen what comes after it
abbrev pub may_succeed : Agent → Values → ℕ → Way → Bool
may_succeed agent values depth w =
    begins_run agent values depth w
    || not (is_followed w)
    || leaves_unseen agent depth w (after agent values w.label)

-- these ways of the body, each with its left as a block that follows no run
abbrev pub searching : ℕ → ℕ → List Way → List Move
searching depth fuel ways = map (λ w. plain_move w.label (prog.Follow depth fuel w.left [])) ways

-- The steps of a block at these values. In Near they are the ways of its body with which a run may begin, and
-- in May also those after which the search, for its depth or for a program that nests too deep, leaves
-- something unseen.
abbrev pub block_moves : Agent → Values → Blocks
block_moves agent values Must depth fuel body rest = certain agent values depth fuel body rest
block_moves agent values Near depth fuel body rest =
    searching depth fuel (filter (begins_run agent values depth) (plain_ways agent values Near body))
block_moves agent values May depth fuel body rest =
    searching depth fuel (filter (may_succeed agent values depth) (plain_ways agent values Near body))

-- the steps of a program in a mode, in order, each with the run that it begins
unfoldable pub moves : Agent → Values → Mode → Prog → List Move
moves agent values = moves_with agent (block_moves agent values) values

-- the ways of a program: its steps, without the runs that they begin
abbrev pub ways : Agent → Values → Mode → Prog → List Way
ways agent values m p = map way_of (moves agent values m p)

-- a program left, with the values there
abbrev pub State : Type 0
State = Prog × Values

-- the same program and the same values
abbrev pub same_state : State → State → Bool
same_state (p, v) (q, w) = same_values v w && same_prog p q

-- the distinct ones among these, each where it first stands
abbrev pub distinct : List State → List State → List State
distinct seen [] = []
distinct seen (s ∷ states) =
    if list_any (same_state s) seen then distinct seen states else s ∷ distinct (s ∷ seen) states

-- the states that one way reaches
abbrev pub next_states : Agent → Mode → State → List State
next_states agent m (p, values) =
    map (λ w. (w.left, after agent values w.label)) (filter is_followed (plain_ways agent values m p))

-- the distinct states that paths of exactly so many ways reach
abbrev pub level : Agent → Mode → Prog → Values → ℕ → List State
level agent m p values zero = (p, values) ∷ []
level agent m p values (suc k) = distinct [] (flat_map (next_states agent m) (level agent m p values k))

-- the length of a run, where there is one
abbrev pub option_length : Option Run → Option ℕ
option_length None = None
option_length (Some run) = Some (length run)

-- how many states a search looks at: those of each length below the least length of a run, or below the depth
-- where there is none
unfoldable pub work : Agent → Mode → ℕ → Prog → Values → ℕ
work agent m depth p values =
    let levels = unwrap_or (option_length (best agent m depth p values)) depth in
    sum_by (λ k. length (level agent m p values k)) (range_with_len 0 levels)
