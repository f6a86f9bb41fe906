-- The states that a search reaches, one step further at a time, each with the step that led there. They are
-- in the order in which code keeps them; `level` of golog_semantics says which states they are. This project's
-- own.
use Rattle.std.specs.Prelude.{◌≡◌, ℕ, suc, ◌+◌, ◌≤◌, Bool, true, false, ◌&&◌, ◌||◌, if◌then◌else◌, nat_lt, not, List, [], ◌∷◌, ◌++◌, All, fold, length, slice_get, take, Option, Some, None}
use Rattle.std.specs.List.{list_any}
use Rattle.std.specs.Option.{option_map_or, option_or}
use Rattle.golog_tree.specs.declared.agent.Agent.{Agent}
use Rattle.golog_tree.specs.declared.prog.Prog.{Prog}
use Rattle.golog_tree.specs.declared.prog.Label.TheVariants.{Quiet}
use Rattle.golog_tree.specs.declared.prog.Way.{Way}
use Rattle.golog_semantics.specs.declared.Mode.{Mode}
use Rattle.golog_semantics.specs.Truth.{Values}
use Rattle.golog_semantics.specs.Values.{after}
use Rattle.golog_semantics.specs.Search.{Run, final, is_followed, plain_ways}
use Rattle.golog_semantics.specs.Blocks.{State, same_state}
use Rattle.golog_ways.specs.Searched.{IsSearched}

-- a state that a search has reached: the last way, which holds the program left, the values there, and the
-- place of the state before it among those that are one step nearer
pub record Reached : Type 0 where
  pub way : Way
  pub state : Values
  pub from : ℕ

-- the distinct states that are so many steps away, and whether some way that would lead there is not followed
pub record Level : Type 0 where
  pub states : List Reached
  pub cut : Bool

-- what a search has seen: the states of each number of steps from none on, those of the last number by
-- themselves, and whether some way was not followed
pub record Looked : Type 0 where
  pub before : List (List Reached)
  pub last : List Reached
  pub cut : Bool

-- the program left and the values there
abbrev pub state_of : Reached → State
state_of r = (r.way.left, r.state)

-- the state is among these
abbrev pub is_there : List Reached → State → Bool
is_there states s = list_any (λ r. same_state s (state_of r)) states

-- where a way leads from these values, and where the state before it stands
abbrev pub reached_by : Agent → ℕ → Values → Way → Reached
reached_by agent from values w = record { way = w; state = after agent values w.label; from = from }

-- nothing reached yet
abbrev pub nothing_reached : Level
nothing_reached = record { states = []; cut = false }

-- with one more state, where it is not there yet
abbrev pub with_state : Level → Reached → Level
with_state l r =
    if is_there l.states (state_of r) then l else record { states = l.states ++ r ∷ []; cut = l.cut }

-- with the state that a way leads to, unless the way is not followed
abbrev pub with_way : Agent → ℕ → Values → Level → Way → Level
with_way agent from values l w =
    if is_followed w then with_state l (reached_by agent from values w)
    else record { states = l.states; cut = true }

-- with all that one step leads to from these states, which stand from this place on
abbrev pub with_steps : Agent → Mode → ℕ → Level → List Reached → Level
with_steps agent m from l [] = l
with_steps agent m from l (r ∷ states) =
    with_steps agent m (suc from)
    (fold (with_way agent from r.state) l (plain_ways agent r.state m r.way.left)) states

-- what one step leads to from these states
abbrev pub next_level : Agent → Mode → List Reached → Level
next_level agent m states = with_steps agent m 0 nothing_reached states

-- so it is of all these states
abbrev pub AreSearched : Agent → List Reached → Type 0
AreSearched agent states = All (λ r. IsSearched agent r.way.left r.state) states

-- the program may end in this state
abbrev pub ends_at : Agent → Mode → Reached → Bool
ends_at agent m r = final agent r.state m r.way.left

-- where a search begins; no step led there
abbrev pub start_of : Prog → Values → Reached
start_of p values = record { way = record { label = Quiet; left = p }; state = values; from = 0 }

-- the run that led to the state at this place, through the levels before, the last of them first
abbrev pub run_to : List (List Reached) → List Reached → ℕ → Run
run_to [] states place = []
run_to (nearer ∷ earlier) states place = option_map_or
    (λ (r : Reached). run_to earlier nearer r.from ++ r.way ∷ []) (slice_get states place) []

-- whether one more state is stored where so many are: while there is room, as one more, and behind that where
-- the program may end in it
abbrev pub is_stored : Option ℕ → ℕ → Bool → Bool
is_stored None count ends = true
is_stored (Some room) count ends = not (nat_lt room count) || (not (nat_lt (suc room) count) && ends)

-- with the state that a way leads to, where it is stored
abbrev pub with_stored : Agent → Mode → Option ℕ → ℕ → Values → Level → Way → Level
with_stored agent m room from values l w =
    if not (is_followed w) || is_stored room (length l.states) (final agent (after agent values w.label) m w.left)
    then with_way agent from values l w else l

-- with what is stored of all that one step leads to from these states, which stand from this place on
abbrev pub stored_steps : Agent → Mode → Option ℕ → ℕ → Level → List Reached → Level
stored_steps agent m room from l [] = l
stored_steps agent m room from l (r ∷ states) =
    stored_steps agent m room (suc from)
    (fold (with_stored agent m room from r.state) l (plain_ways agent r.state m r.way.left)) states

-- what is stored of what one step leads to from these states
abbrev pub stored_level : Agent → Mode → Option ℕ → List Reached → Level
stored_level agent m room states = stored_steps agent m room 0 nothing_reached states

-- the state, where the program may end in it
abbrev pub end_of : Agent → Mode → Reached → Option Reached
end_of agent m r = if ends_at agent m r then Some r else None

-- the first of these states in which the program may end
abbrev pub first_end : Agent → Mode → List Reached → Option Reached
first_end agent m [] = None
first_end agent m (r ∷ states) = option_or (end_of agent m r) (first_end agent m states)

-- these states are what is stored of a level: as many as there is room for, one more, and an end behind those;
-- the first end is that of the level, and where there is none no other state stands behind
pub record IsStoredOf (agent : Agent) (m : Mode) (room : ℕ) (level states : List Reached) : Type 0 where
  pub first : take (suc room) states ≡ take (suc room) level
  pub few : length states ≤ room + 2
  pub end : first_end agent m states ≡ first_end agent m level
  pub endless : first_end agent m states ≡ None → length states ≤ room + 1

-- the same, and the whole level where there is room for any number of states
abbrev pub AreStored : Agent → Mode → Option ℕ → List Reached → List Reached → Type 0
AreStored agent m None level states = states ≡ level
AreStored agent m (Some room) level states = IsStoredOf agent m room level states

-- for how many states there is room where so much fuel is left: a search without bounds has room for any number
abbrev pub room_for : Bool → ℕ → Option ℕ
room_for bounded fuel = if bounded then Some fuel else None
