-- Laws of runs: the best run of a block, and the states that a search looks at.
use Rattle.std.specs.Prelude.{◌≡◌, ℕ, zero, suc, ◌<◌, ◌≤◌, IsTrue, Some, List, [], ◌∷◌, length, Contains, MatchOption, slice_get}
use Rattle.std.specs.List.{list_all}
use Rattle.golog_tree.specs.declared.agent.Agent.{Agent}
use Rattle.golog_tree.specs.declared.prog.Prog.{Prog}
use Rattle.golog_tree.specs.declared.prog.Way.{Way}
use Rattle.golog_semantics.specs.declared.Mode.{Mode}
use Rattle.golog_semantics.specs.declared.Mode.TheVariants.{Must}
use Rattle.golog_semantics.specs.Truth.{Values}
use Rattle.golog_semantics.specs.Values.{after}
use Rattle.golog_semantics.specs.Search.{Run, is_followed, plain_ways, runs, best}
use Rattle.golog_semantics.specs.Blocks.{State, goes_through, level}

-- a way that a search follows leads from the first state to the second
abbrev pub LeadsTo : Agent → Mode → State → State → Type 0
LeadsTo agent m (p, values) s =
    (w : Way) × Contains (plain_ways agent values m p) w × IsTrue (is_followed w)
    × (s ≡ (w.left, after agent values w.label))

module _ (agent : Agent) (m : Mode) (p : Prog) (values : Values) where
  -- no run is as short as this
  abbrev pub NoneUpTo : ℕ → Type 0
  NoneUpTo depth = (n : ℕ) → 1 ≤ n → n ≤ depth → runs agent m n p values ≡ []

  -- the run is the first of its length, and there is none that is shorter
  pub record IsLeast (depth : ℕ) (run : Run) : Type 0 where
    pub some : 1 ≤ length run
    pub within : length run ≤ depth
    pub later : List Run
    pub first : runs agent m (length run) p values ≡ run ∷ later
    pub least : (n : ℕ) → 1 ≤ n → n < length run → runs agent m n p values ≡ []

  -- exactly so many ways lead to the state
  abbrev pub Reaches : ℕ → State → Type 0
  Reaches zero s = s ≡ (p, values)
  Reaches (suc k) s = (t : State) × Reaches k t × LeadsTo agent m t s

  -- a level holds the states that so many ways reach, each once
  pub record IsLevel (k : ℕ) : Type 0 where
    pub reached : (s : State) → Contains (level agent m p values k) s → Reaches k s
    pub all : (s : State) → Reaches k s → Contains (level agent m p values k) s
    pub once : (i j : ℕ) (s : State) → slice_get (level agent m p values k) i ≡ Some s
        → slice_get (level agent m p values k) j ≡ Some s → i ≡ j

abbrev pub BestIsLeast : Type 0
BestIsLeast =
    (agent : Agent) (m : Mode) (depth : ℕ) (p : Prog) (values : Values)
    → MatchOption (best agent m depth p values)
    (NoneUpTo agent m p values depth) (IsLeast agent m p values depth)

-- runs have their length, and the certain ones are those that go through
pub record RunsGoThrough (agent : Agent) (p : Prog) (values : Values) : Type 0 where
  pub long : (m : Mode) (n : ℕ) (run : Run) → Contains (runs agent m n p values) run → length run ≡ n
  pub through : (n : ℕ) (run : Run) → Contains (runs agent Must n p values) run
      → IsTrue (goes_through agent p run values)
  pub all : (run : Run) → IsTrue (list_all is_followed run) → IsTrue (goes_through agent p run values)
      → Contains (runs agent Must (length run) p values) run
  pub best_through : (depth : ℕ) (run : Run) → best agent Must depth p values ≡ Some run
      → IsTrue (goes_through agent p run values)

abbrev pub RunsAreSound : Type 0
RunsAreSound = (agent : Agent) (p : Prog) (values : Values) → RunsGoThrough agent p values

abbrev pub LevelsAreReached : Type 0
LevelsAreReached = (agent : Agent) (m : Mode) (p : Prog) (values : Values) (k : ℕ)
    → IsLevel agent m p values k
