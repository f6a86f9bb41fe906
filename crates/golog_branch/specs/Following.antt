-- What is left of a program that follows plans, and the plan that is kept, after the entries of a journal.
-- (This project's own.)
use Rattle.std.specs.Prelude.{ℕ, Bool, true, false, ◌==◌, ◌&&◌, if◌then◌else◌, is_some, Option, Some, None, List, [], ◌∷◌, find, slice_get, option_map, option_and_then}
use Rattle.std.specs.Option.{option_map_or}
use Rattle.golog_tree.specs.declared.agent.Agent.{Agent}
use Rattle.golog_tree.specs.declared.prog.Label.{Label}
use Rattle.golog_tree.specs.declared.prog.Prog.{Prog}
use Rattle.golog_semantics.specs.declared.journal.Entry.{Entry}
use Rattle.golog_semantics.specs.declared.journal.Entry.TheVariants.{Do, Test, Sense}
use Rattle.golog_semantics.specs.Truth.{Values}
use Rattle.golog_semantics.specs.Journal.{Journal}
use Rattle.golog_semantics.specs.Progress.{after_entry}
use Rattle.golog_branch.specs.declared.following.Kept.{Kept}
use Rattle.golog_branch.specs.declared.tree.Branch.{Branch}
use Rattle.golog_branch.specs.declared.tree.Planned.{Planned}
use Rattle.golog_branch.specs.declared.tree.Planned.TheVariants.{Found}
use Rattle.golog_branch.specs.declared.tree.Tree.{Tree}
use Rattle.golog_branch.specs.declared.tree.Tree.TheOpen.{Tree-F, Done, Step}
use Rattle.golog_branch.specs.declared.tree.Tree.TheViews.{out-Tree}
use Rattle.golog_branch.specs.Going.{goes}
use Rattle.golog_branch.specs.Plans.{planned}
use Rattle.golog_branch.specs.Trees.{sensed_by_label}

-- a layer of a plan
abbrev pub Layer : Type 0
Layer = Tree-F Tree Branch

abbrev pub is_step_layer : Layer → Bool
is_step_layer Done = false
is_step_layer (Step label left next) = true

-- the plan begins with a step
abbrev pub begins_with_step : Tree → Bool
begins_with_step t = is_step_layer (out-Tree t)

abbrev pub branches_in : Layer → List Branch
branches_in Done = []
branches_in (Step label left next) = next

-- the branches behind its first step
abbrev pub branches : Tree → List Branch
branches t = branches_in (out-Tree t)

abbrev pub label_in : Layer → Option Label
label_in Done = None
label_in (Step label left next) = Some label

-- what its first step does
abbrev pub first_label : Tree → Option Label
first_label t = label_in (out-Tree t)

-- the plan of a branch
abbrev pub plan_of : Option Branch → Option Tree
plan_of o = option_map (λ (b : Branch). b.tree) o

-- the plan for a value that was sensed, where there is one
abbrev pub plan_for : ℕ → Tree → Option Tree
plan_for value t = plan_of (find (λ (b : Branch). b.value == value) (branches t))

-- the plan that was found, if one was
abbrev pub tree_in : Planned → Option Tree
tree_in (Found t) = Some t
tree_in _ = None

-- what is kept after a result
abbrev pub after_result : Kept → ℕ → Kept
after_result k value = record { left = k.left; plan = option_and_then (plan_for value) k.plan }

module _ (agent : Agent) where
  -- the plan begins with a step, and goes through from here
  abbrev pub goes_on : Prog → Values → Tree → Bool
  goes_on left values t = begins_with_step t && goes agent t left values

  -- the plan, where it does
  abbrev pub if_goes_on : Prog → Values → Tree → Option Tree
  if_goes_on left values t = if goes_on left values t then Some t else None

  -- the plan that is kept, where it begins with a step and goes through from here
  abbrev pub plan_kept : Values → Kept → Option Tree
  plan_kept values k = option_and_then (if_goes_on k.left values) k.plan

  -- the plan behind a first step: after one that senses it is kept until the result tells its branch
  abbrev pub plan_behind : Tree → Label → List Branch → Option Tree
  plan_behind t label next = if is_some (sensed_by_label agent label) then Some t else plan_of (slice_get next 0)

  abbrev pub after_layer : Tree → Kept → Layer → Kept
  after_layer t k Done = k
  after_layer t k (Step label left next) = record { left = left; plan = plan_behind t label next }

  -- what is kept after the first step of a plan
  abbrev pub after_step : Kept → Tree → Kept
  after_step k t = after_layer t k (out-Tree t)

  module _ (depth fuel : ℕ) where
    -- what the program goes on with: the plan that is kept, or what a search comes to
    unfoldable pub ahead : Values → Kept → Planned
    ahead values k = option_map_or Found (plan_kept values k) (planned agent depth fuel k.left values)

    -- what is kept after an entry
    abbrev pub kept_at : Values → Kept → Entry → Kept
    kept_at values k (Do action) = option_map_or (after_step k) (tree_in (ahead values k)) k
    kept_at values k Test = option_map_or (after_step k) (tree_in (ahead values k)) k
    kept_at values k (Sense poster place fluent value) = after_result k value
    kept_at values k _ = k

    -- what is kept after these entries, from these values and this on
    abbrev pub kept_from : Values → Kept → Journal → Kept
    kept_from values k [] = k
    kept_from values k (e ∷ entries) = kept_from (after_entry agent values e) (kept_at values k e) entries

    -- what is kept after the entries of a journal
    abbrev pub kept_after : Journal → Kept
    kept_after journal = kept_from agent.starts (record { left = agent.main; plan = None }) journal
