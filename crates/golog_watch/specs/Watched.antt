-- Conditions that tell whether a run goes through.
--
-- That a condition on what is known after an action is taken back to one on what is known before it is
-- regression (Reiter 2001). That a run is watched by the conditions of all that is left of it is this project's
-- own.
use Rattle.std.specs.Prelude.{◌≡◌, ◌⊎◌, ℕ, suc, ◌-◌, ◌≤◌, ◌==◌, nat_lt, Bool, true, not, ◌&&◌, if◌then◌else◌, IsTrue, Some, IfSome, IsSome, MatchOption, option_map, All, List, [], ◌∷◌, ◌++◌, length, map, filter, drop, slice_get, slice_index_or}
use Rattle.std.specs.Cmp.Lexicographic.{pointwise}
use Rattle.std.specs.List.{list_any, position, remove}
use Rattle.golog_tree.specs.declared.agent.Agent.{Agent}
use Rattle.golog_tree.specs.declared.cond.Cond.{Cond}
use Rattle.golog_tree.specs.declared.prog.Label.{Label}
use Rattle.golog_tree.specs.declared.prog.Label.TheVariants.{Quiet, Do}
use Rattle.golog_tree.specs.declared.prog.Prog.{Prog}
use Rattle.golog_tree.specs.declared.prog.Way.{Way}
use Rattle.golog_semantics.specs.InSorts.{AreInSorts}
use Rattle.golog_semantics.specs.declared.Mode.TheVariants.{Must}
use Rattle.golog_semantics.specs.BlockFree.{has_block}
use Rattle.golog_semantics.specs.Blocks.{goes_through}
use Rattle.golog_semantics.specs.Fits.{cond_fits, nothing_bound}
use Rattle.golog_semantics.specs.ProgFits.{fits}
use Rattle.golog_semantics.specs.Reports.{fits_label}
use Rattle.golog_semantics.specs.Same.{same_prog, same_way}
use Rattle.golog_semantics.specs.Search.{Run, plain_ways}
use Rattle.golog_semantics.specs.Truth.{Values}
use Rattle.golog_semantics.specs.Ways.{is_so}
use Rattle.golog_semantics.specs.World.{Refines}
use Rattle.golog_regress.specs.Size.{nodes}
use Rattle.golog_regress.specs.declared.event.Event.{Event}
use Rattle.golog_regress.specs.declared.event.Event.TheVariants.{Did}
use Rattle.golog_fronts.specs.declared.front_lists.Front.{Front}
use Rattle.golog_fronts.specs.FrontLists.{guarded_of}
use Rattle.golog_watch.specs.declared.watch.Watch.{Watch}
use Rattle.golog_watch.specs.declared.watches.Watches.{Watches}

-- the conditions of those of the fronts that are this step
abbrev pub conds_for : Way → List Front → List Cond
conds_for w fs = map (λ f. f.cond) (filter (λ f. same_way w (guarded_of f).way) fs)

-- the most nodes of a condition that is kept
abbrev pub most_nodes : ℕ
most_nodes = 10000

-- the conditions, with this one behind them unless it has too many nodes
abbrev pub with_small : List Cond → Cond → List Cond
with_small conds c = if nat_lt most_nodes (nodes c) then conds else conds ++ c ∷ []

-- what happens at a step
abbrev pub events_of : Label → List Event
events_of Quiet = []
events_of (Do action) = Did action ∷ []

-- a program and a run are these
abbrev pub is_whole : Prog → Run → Prog → Run → Bool
is_whole p run q rest = same_prog p q && pointwise same_way run rest

-- a program and a run are what another run of a program leaves after some of its ways
abbrev pub is_left : Prog → Run → Prog → Run → Bool
is_left p [] q rest = is_whole p [] q rest
is_left p (w ∷ run) q rest =
    if suc (length run) == length rest then is_whole p (w ∷ run) q rest else is_left w.left run q rest

-- the run is what the run of the watch leaves after some of its ways
abbrev pub keeps : Prog → Run → Watch → Bool
keeps p rest w = is_left w.body w.rest p rest

-- the watch has a condition that tells whether what is left of its run goes through
abbrev pub IsTold : Watch → Run → Type 0
IsTold w rest = IsSome (slice_get w.conds (length rest))

-- the most watches that are kept
abbrev pub most_watches : ℕ
most_watches = 16

-- the watches, without the first where there is no room for one more
abbrev pub with_room : List Watch → List Watch
with_room ws = if length ws == most_watches then drop 1 ws else ws

-- the watches, that at the place standing last
abbrev pub UsedLast : List Watch → ℕ → List Watch → Type 0
UsedLast ws place new = (d : Watch) → new ≡ remove ws place ++ slice_index_or ws place d ∷ []

-- a new watch of the run stands behind the others
pub record IsNewest (p : Prog) (rest : Run) (ws new : List Watch) : Type 0 where
  pub watch : Watch
  pub body : watch.body ≡ p
  pub run : watch.rest ≡ rest
  pub added : new ≡ with_room ws ++ watch ∷ []

-- the first watch that keeps the run stands last, or where none does a new one
abbrev pub IsRecalled : Prog → Run → List Watch → List Watch → Type 0
IsRecalled p rest ws new =
    MatchOption (position (keeps p rest) ws) (IsNewest p rest ws new) (λ place. UsedLast ws place new)

-- no watch but the first is gone, and that only where there was no room for one more
abbrev pub StayThere : List Watch → List Watch → Type 0
StayThere ws new = (new ≡ ws) ⊎ (new ≡ with_room ws)

-- the watch that stands last keeps the run
abbrev pub LastKeeps : Prog → Run → List Watch → Type 0
LastKeeps p rest ws = option_map (keeps p rest) (slice_get ws (length ws - 1)) ≡ Some true

module _ (agent : Agent) where
  -- At all values, the condition holds for certain exactly where the way is a certain step of the program. The
  -- way is the agent's, and what it leaves fits and has no search block.
  pub record Opens (p : Prog) (w : Way) (c : Cond) : Type 0 where
    pub closed : IsTrue (cond_fits agent c nothing_bound)
    pub tells : (values : Values) → is_so agent values Must c ≡ list_any (same_way w) (plain_ways agent values Must p)
    pub label : IsTrue (fits_label agent w.label)
    pub left : IsTrue (fits agent w.left)
    pub blockless : IsTrue (not (has_block agent w.left))

  -- at all values, the condition holds for certain exactly where the run goes through
  pub record Tells (p : Prog) (rest : Run) (c : Cond) : Type 0 where
    pub closed : IsTrue (cond_fits agent c nothing_bound)
    pub tells : (values : Values) → AreInSorts agent values
        → is_so agent values Must c ≡ goes_through agent p rest values

  -- of what is left of the run, each by its length, a condition tells where there is one
  abbrev pub TellEach : Prog → Run → List Cond → Type 0
  TellEach p [] conds = IfSome (slice_get conds 0) (Tells p [])
  TellEach p (w ∷ rest) conds = TellEach w.left rest conds × IfSome (slice_get conds (suc (length rest))) (Tells p (w ∷ rest))

  -- the same, and there is one at most for each
  pub record AreTold (p : Prog) (rest : Run) (conds : List Cond) : Type 0 where
    pub each : TellEach p rest conds
    pub most : length conds ≤ suc (length rest)

  -- the condition tells of the run, and would stand behind the conditions of all that is left of it
  pub record IsNext (p : Prog) (run : Run) (conds : List Cond) (c : Cond) : Type 0 where
    pub tells : Tells p run c
    pub next : length run ≤ length conds

  -- the watch is of a program that fits and has no search block, and its conditions tell of its run
  pub record IsWatch (w : Watch) : Type 0 where
    pub program : IsTrue (fits agent w.body)
    pub blockless : IsTrue (not (has_block agent w.body))
    pub told : AreTold w.body w.rest w.conds

  -- there are at most 16 watches, and all are of the agent
  pub record AreWatches (ws : Watches) : Type 0 where
    pub each : All IsWatch ws.watches.items
    pub most : length ws.watches.items ≤ most_watches

  -- a run that went through from values goes through from values that refine these
  abbrev pub StaysKept : Prog → Run → Values → Bool → Type 0
  StaysKept p rest values b =
      (old : Values) → Refines old values → IsTrue (goes_through agent p rest old) → IsTrue b
