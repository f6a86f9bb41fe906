-- What a search keeps, its programs by their numbers, and what that stands for. All of it is this project's
-- own.
use Rattle.std.specs.Prelude.{◌≡◌, ℕ, ◌<◌, ◌≤◌, Bool, false, ◌&&◌, ◌==◌, if◌then◌else◌, List, [], ◌∷◌, ◌++◌, All, length, map, slice_get, unwrap_or}
use Rattle.std.specs.List.{list_any}
use Rattle.std.specs.Option.{option_map_or}
use Rattle.golog_tree.specs.declared.agent.Agent.{Agent}
use Rattle.golog_tree.specs.declared.prog.Label.{Label}
use Rattle.golog_tree.specs.declared.prog.Prog.{Prog}
use Rattle.golog_tree.specs.declared.prog.Prog.TheVariants.{Nil}
use Rattle.golog_semantics.specs.InSorts.{AreInSorts}
use Rattle.golog_semantics.specs.Same.{same_values}
use Rattle.golog_semantics.specs.Truth.{Values}
use Rattle.golog_semantics.specs.Values.{after}
use Rattle.golog_memo.specs.Numbered.{AreOnce}
use Rattle.golog_memo.specs.Placed.{is_placed}
use Rattle.golog_memo.specs.declared.places.Places.{Places}
use Rattle.golog_find.specs.declared.level.Level.{Level as AnyLevel}
use Rattle.golog_find.specs.declared.numbered.Numbered.{Numbered}
use Rattle.golog_find.specs.declared.search.Search.{Search}
use Rattle.golog_find.specs.Levels.{Level, Looked, Reached}
use Rattle.golog_find.specs.Rows.{state_hash}

-- what has a number keeps it
pub record GoesOn (progs more : List Prog) : Type 0 where
  pub longer : length progs ≤ length more
  pub same : (i : ℕ) → i < length progs → slice_get more i ≡ slice_get progs i

-- the numbers are those of programs
abbrev pub HaveNumbers : List Prog → List Numbered → Type 0
HaveNumbers progs states = All (λ n. n.left < length progs) states

-- the state that stands for one with a number
abbrev pub meant : List Prog → Numbered → Reached
meant progs n = record {
  way = record { label = n.label; left = unwrap_or (slice_get progs n.left) Nil };
  state = n.state;
  from = n.from;
}

abbrev pub all_meant : List Prog → List Numbered → List Reached
all_meant progs states = map (meant progs) states

-- the state has this number and these values
abbrev pub is_pair : ℕ → Values → Numbered → Bool
is_pair prog values n = prog == n.left && same_values values n.state

-- with one more state, where none has its number and its values
abbrev pub with_numbered : List Numbered → Numbered → List Numbered
with_numbered states n = if list_any (is_pair n.left n.state) states then states else states ++ n ∷ []

-- where a step leads from these values, which stand at this place, what it leaves by its number
abbrev pub led : Agent → ℕ → Values → Label → ℕ → Numbered
led agent from values label left = record { label = label; left = left; state = after agent values label; from = from }

-- a state of this hash stands at the place
abbrev pub stands : List Numbered → ℕ → ℕ → Bool
stands states hash place = option_map_or (λ (n : Numbered). hash == state_hash n.left n.state) (slice_get states place) false

-- the places that were seen are those of these states, by their hashes
pub record Sees (seen : Places) (states : List Numbered) : Type 0 where
  pub placed : (hash place : ℕ) → is_placed seen hash place ≡ stands states hash place

-- a level whose states have numbers, equal programs one, whose places were seen, and whose next state is of the agent
pub record IsLevel (agent : Agent) (progs : List Prog) (level : AnyLevel) : Type 0 where
  pub once : AreOnce progs
  pub numbers : HaveNumbers progs level.states
  pub seen : Sees level.seen level.states
  pub next : AreInSorts agent level.next.state

abbrev pub level_of : List Prog → AnyLevel → Level
level_of progs level = record { states = all_meant progs level.states; cut = level.cut }

-- a search whose states have numbers, equal programs one
pub record IsNumbered (search : Search) : Type 0 where
  pub once : AreOnce search.nodes
  pub before : All (HaveNumbers search.nodes) search.before
  pub last : HaveNumbers search.nodes search.last

abbrev pub looked_of : Search → Looked
looked_of search = record {
  before = map (all_meant search.nodes) search.before;
  last = all_meant search.nodes search.last;
  cut = search.cut;
}
