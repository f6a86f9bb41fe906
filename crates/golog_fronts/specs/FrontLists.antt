-- Fronts in code, and lists of them as they are put together.
use Rattle.std.specs.Prelude.{◌≡◌, ℕ, Bool, ◌&&◌, IsTrue, List, [], ◌∷◌, map}
use Rattle.std.specs.List.{list_all}
use Rattle.golog_tree.specs.declared.agent.Agent.{Agent}
use Rattle.golog_tree.specs.declared.cond.Arg.{Arg}
use Rattle.golog_tree.specs.declared.cond.Cond.{Cond}
use Rattle.golog_tree.specs.declared.cond.Cond.TheVariants as cond
use Rattle.golog_tree.specs.declared.prog.Label.{Label}
use Rattle.golog_tree.specs.declared.prog.Prog.{Prog}
use Rattle.golog_tree.specs.declared.prog.Prog.TheVariants as prog
use Rattle.golog_semantics.specs.declared.Mode.{Mode}
use Rattle.golog_semantics.specs.Fits.{cond_fits, nothing_bound}
use Rattle.golog_semantics.specs.Fronts.{AreFronts, Guarded, open_ways}
use Rattle.golog_semantics.specs.Reports.{fits_label}
use Rattle.golog_semantics.specs.Truth.{Values, arg_value, env_of}
use Rattle.golog_semantics.specs.Values.{is_possible}
use Rattle.golog_semantics.specs.Ways.{is_so}
use Rattle.golog_semantics.specs.Blocks.{ways as all_ways}
use Rattle.golog_fronts.specs.declared.front_lists.Front.{Front}
use Rattle.golog_fronts.specs.Ends.{IsClosedEnd}
use Rattle.golog_fronts.specs.Lefts.{fits_in}

-- a front as a step and its condition
abbrev pub guarded_of : Front → Guarded
guarded_of f = record { cond = f.cond; way = record { label = f.label; left = f.left } }

-- fronts as steps and their conditions
abbrev pub guarded : List Front → List Guarded
guarded fs = map guarded_of fs

-- the same step, with what it leaves put into a context
abbrev pub front_in : (Prog → Prog) → Front → Front
front_in context f = record { cond = f.cond; label = f.label; left = context f.left }

-- the same step, where a condition holds too
abbrev pub front_where : Cond → Front → Front
front_where c f = record { cond = cond.And (c ∷ f.cond ∷ []); label = f.label; left = f.left }

-- a step that leaves nothing
abbrev pub last_front : Cond → Label → Front
last_front c label = record { cond = c; label = label; left = prog.Nil }

-- none of these steps may be taken
abbrev pub none_open : List Front → Cond
none_open fs = cond.Not (cond.Or (map (λ f. f.cond) fs))

-- the condition of each front has no free variable and is of the agent's numbers and sorts
abbrev pub are_closed : Agent → List Front → Bool
are_closed agent fs = list_all (λ f. cond_fits agent f.cond nothing_bound) fs

-- the front's action is the agent's, and what it leaves fits, within a search block or outside
abbrev pub leaves_fitting : Agent → Bool → Front → Bool
leaves_fitting agent in_block f = fits_label agent f.label && fits_in agent in_block f.left

-- the same of each of these fronts
abbrev pub lefts_fit : Agent → Bool → List Front → Bool
lefts_fit agent in_block fs = list_all (leaves_fitting agent in_block) fs

-- The fronts of a program, whose conditions have no free variable and are of the agent's numbers and sorts,
-- and whose lefts fit where the program does.
pub record AreClosedFronts (agent : Agent) (p : Prog) (fs : List Front) : Type 0 where
  pub fronts : AreFronts agent p (guarded fs)
  pub closed : IsTrue (are_closed agent fs)
  pub lefts : (in_block : Bool) → IsTrue (fits_in agent in_block p) → IsTrue (lefts_fit agent in_block fs)

-- the fronts of two programs
pub record AreBothFronts (agent : Agent) (p q : Prog) (fs hs : List Front) : Type 0 where
  pub one : AreClosedFronts agent p fs
  pub other : AreClosedFronts agent q hs

-- In every mode and at all values, the condition holds where the action is possible, and it has no free
-- variable and is of the agent's numbers and sorts.
pub record IsPrecondition (agent : Agent) (action : ℕ) (args : List Arg) (c : Cond) : Type 0 where
  pub holds : (m : Mode) (values : Values) → is_so agent values m c ≡ is_possible agent values m action (map (arg_value (env_of [])) args)
  pub closed : IsTrue (cond_fits agent c nothing_bound)

-- the fronts of a second part, where the first may end
pub record AreWhereEnds (agent : Agent) (p : Prog) (fs hs : List Front) : Type 0 where
  pub end : Cond
  pub is : IsClosedEnd agent p end
  pub same : hs ≡ map (front_where end) fs

-- in every mode and at all values, the ways, with those of search blocks, are the fronts whose condition holds
pub record AreAllFronts (agent : Agent) (p : Prog) (fs : List Guarded) : Type 0 where
  pub ways : (m : Mode) (values : Values) → open_ways agent values m fs ≡ all_ways agent values m p
