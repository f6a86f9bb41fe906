-- What a search for a plan keeps: the states of each number of steps, where their steps lead among those of the next,
-- and tables that tell the plan of each. All of it is this project's own.
use Rattle.std.specs.Prelude.{◌≡◌, ◌≤◌, ℕ, Bool, true, false, not, IsTrue, if◌then◌else◌, Option, Some, None, List, [], ◌∷◌, ◌++◌, All, fold, length, map, slice_get, option_map, option_and_then}
use Rattle.std.specs.List.{AllZip, flat_map, list_any}
use Rattle.golog_tree.specs.declared.agent.Agent.{Agent}
use Rattle.golog_tree.specs.declared.prog.Prog.{Prog}
use Rattle.golog_tree.specs.declared.prog.Way.{Way}
use Rattle.golog_semantics.specs.declared.Mode.TheVariants.{Must}
use Rattle.golog_semantics.specs.BlockFree.{has_block}
use Rattle.golog_semantics.specs.Blocks.{State, same_state}
use Rattle.golog_semantics.specs.Online.{first_some}
use Rattle.golog_semantics.specs.ProgFits.{fits}
use Rattle.golog_semantics.specs.Reports.{fits_label}
use Rattle.golog_semantics.specs.Search.{final, is_followed}
use Rattle.golog_semantics.specs.Truth.{Values}
use Rattle.golog_ways.specs.Searched.{IsSearched}
use Rattle.golog_branch.specs.declared.cases.Case.{Case as AnyCase}
use Rattle.golog_branch.specs.declared.spot.Jump.{Jump}
use Rattle.golog_branch.specs.declared.spot.Link.{Link}
use Rattle.golog_branch.specs.declared.spot.Linked.{Linked}
use Rattle.golog_branch.specs.declared.spot.Spot.{Spot}
use Rattle.golog_branch.specs.declared.tree.Branch.{Branch}
use Rattle.golog_branch.specs.declared.tree.Tree.{Tree}
use Rattle.golog_branch.specs.declared.tree.Tree.TheVariants as tree
use Rattle.golog_branch.specs.Plans.{Planning, all_some, branch_to, followed, next_states, step_for}
use Rattle.golog_branch.specs.Trees.{Case, cases}

-- the value and the values of the ground fluents
abbrev pub case_of : AnyCase → Case
case_of c = (c.value, c.state)

-- the program left and the values there
abbrev pub state_of : Spot → State
state_of s = (s.left, s.state)

abbrev pub states_of : List Spot → List State
states_of spots = map state_of spots

-- with one more state, where it is not there yet
abbrev pub with_state : List State → State → List State
with_state states s = if list_any (same_state s) states then states else states ++ s ∷ []

-- what stands in a list stands at the same place in another
pub record Keeps (states more : List State) : Type 0 where
  pub same : (place : ℕ) (s : State) → slice_get states place ≡ Some s → slice_get more place ≡ Some s

-- a value, and the state that it leads to, where there is one
abbrev pub Led : Type 0
Led = ℕ × Option State

-- where a jump leads, among these states
abbrev pub jumped : List State → Jump → Led
jumped states j = (j.value, slice_get states j.place)

-- where a case leads
abbrev pub led : Prog → Case → Led
led left c = (c.0, Some (left, c.1))

-- a way, and where its cases lead
abbrev pub WayLed : Type 0
WayLed = Way × List Led

abbrev pub linked : List State → Link → WayLed
linked states l = (l.way, map (jumped states) l.next)

-- something is added behind a list, where it is there
abbrev pub Adds : {A : Type 0} → Option A → List A → List A → Bool → Type 0
Adds o before more true = option_map (λ x. before ++ x ∷ []) o ≡ Some more
Adds o before more false = o ≡ None

module _ (agent : Agent) where
  abbrev pub way_led : Values → Way → WayLed
  way_led values w = (w, map (led w.left) (cases agent values w.label))

  -- a step of the agent's, after which a program is left that a search may reach
  pub record IsWay (w : Way) : Type 0 where
    pub program : IsTrue (fits agent w.left)
    pub blockless : IsTrue (not (has_block agent w.left))
    pub label : IsTrue (fits_label agent w.label)

  -- a state that a search may reach, which tells whether the program may end
  pub record IsSpot (s : Spot) : Type 0 where
    pub searched : IsSearched agent s.left s.state
    pub ends : s.ends ≡ final agent s.state Must s.left

  -- the plan that begins with a way, where it may be followed and each of its cases has a plan
  abbrev pub followed_step : Planning → Values → Way → Option Tree
  followed_step plan values w = if is_followed w then step_for agent plan values w else None

  -- whether the program may end in a state, and its steps that may be followed, which lead to these states
  pub record IsLinked (next : List State) (s : State) (l : Linked) : Type 0 where
    pub ends : l.ends ≡ final agent s.1 Must s.0
    pub links : map (linked next) l.links ≡ map (way_led s.1) (followed agent s.0 s.1)

  -- the first level is that of these states, each is linked to the next, and the last is not linked yet
  abbrev pub AreLevels : List State → List (List Linked) → List Spot → Type 0
  AreLevels states [] last = (states_of last ≡ states) × All IsSpot last
  AreLevels states (level ∷ levels) last =
      (next : List State) × AllZip (IsLinked next) states level × AreLevels next levels last

  -- the states of the next level, for which there is room, and how those of a level are linked to them
  pub record IsNextLevel (states : List State) (room : ℕ) (level : List Linked) (next : List Spot) : Type 0 where
    pub states_so : states_of next ≡ fold with_state [] (flat_map (next_states agent) states)
    pub spots : All IsSpot next
    pub linked_so : AllZip (IsLinked (states_of next)) states level
    pub few : length next ≤ room

-- the plans of the states of a level, where there are some
abbrev pub Table : Type 0
Table = List (Option Tree)

-- the plan of the state at a place
abbrev pub plan_in : Table → ℕ → Option Tree
plan_in table place = option_and_then (λ o. o) (slice_get table place)

-- the branch of a jump, by the plans of the next level
abbrev pub branch_in : Table → Jump → Option Branch
branch_in table j = option_map (branch_to j.value) (plan_in table j.place)

-- the step with these branches
abbrev pub step_with : Way → Option (List Branch) → Option Tree
step_with w next = option_map (tree.Step w.label w.left) next

abbrev pub link_plan : Table → Link → Option Tree
link_plan table l = step_with l.way (all_some (map (branch_in table) l.next))

-- the plan of a state, by the plans of the next level
abbrev pub linked_plan : Table → Linked → Option Tree
linked_plan table l = if l.ends then Some tree.Done else first_some (map (link_plan table) l.links)
