-- What a plan says of each world in which all is so that is known.
--
-- That a plan is followed by what is sensed, and leads to an end whatever that is, is De Giacomo and Levesque's
-- (1999), of the published Trans and Final (ConGolog 2000).
use Rattle.std.specs.Prelude.{◌≡◌, ℕ, zero, suc, ◌==◌, IsTrue, ⊤, Option, Some, None, IsSomeAnd, List, find, slice_get, slice_index}
use Rattle.golog_tree.specs.declared.agent.Agent.{Agent}
use Rattle.golog_tree.specs.declared.prog.Prog.{Prog}
use Rattle.golog_semantics.specs.Truth.{Values}
use Rattle.golog_semantics.specs.Values.{after}
use Rattle.golog_semantics.specs.Trans.{FinalW, TransW}
use Rattle.golog_semantics.specs.WellFormed.{WellFormed}
use Rattle.golog_semantics.specs.World.{Completes}
use Rattle.golog_ways.specs.Searched.{IsSearched}
use Rattle.golog_branch.specs.declared.tree.Branch.{Branch}
use Rattle.golog_branch.specs.declared.tree.Tree.{Tree}
use Rattle.golog_branch.specs.declared.tree.Tree.TheOpen.{Tree-F, Done, Step}
use Rattle.golog_branch.specs.declared.tree.Tree.TheViews.{out-Tree}
use Rattle.golog_branch.specs.declared.tree.Planned.{Planned}
use Rattle.golog_branch.specs.declared.tree.Planned.TheVariants.{Found}
use Rattle.golog_branch.specs.Going.{goes}
use Rattle.golog_branch.specs.Plans.{planned}
use Rattle.golog_branch.specs.Trees.{sensed_by_label}
use Rattle.golog_branch.specs.TreeTexts.{is_told}

-- the branch that a world takes: that of the sensed fluent's value there, or the only one
abbrev pub branch_taken : Values → Option ℕ → List Branch → Option Branch
branch_taken world None next = slice_get next 0
branch_taken world (Some fluent) next = find (λ (b : Branch). b.value == slice_index world fluent) next

module _ (agent : Agent) where
  -- Given that of shorter plans: a step is one of the world, and so on from the branch that the world takes; where
  -- the plan is done, the program may end.
  abbrev pub leads_layer : (Tree → Prog → Values → Type 0) → Prog → Values → Tree-F Tree Branch → Type 0
  leads_layer leads p world Done = FinalW agent world p
  leads_layer leads p world (Step label left next) =
      TransW agent world p label left
      × IsSomeAnd (branch_taken (after agent world label) (sensed_by_label agent label) next)
      (λ (b : Branch). leads b.tree left (after agent world label))

  -- followed in this world, the plan leads in at most so many steps to where the program may end
  abbrev pub LeadsWithin : ℕ → Tree → Prog → Values → Type 0
  LeadsWithin zero t p world = leads_layer (λ _ _ _. ⊥) p world (out-Tree t)
  LeadsWithin (suc n) t p world = leads_layer (LeadsWithin n) p world (out-Tree t)

  -- what is so of a plan within the depth for a program where this is known: it leads to an end in each world in
  -- which all is so that is known, it goes through from there, and it has a text
  pub record IsPlanFor (depth : ℕ) (p : Prog) (values : Values) (t : Tree) : Type 0 where
    pub leads : (world : Values) → Completes agent values world → LeadsWithin depth t p world
    pub goes_through : IsTrue (goes agent t p values)
    pub told : IsTrue (is_told agent t)

  -- what is so of what a search comes to: that much of a plan that is found
  abbrev pub IsFoundFor : ℕ → Prog → Values → Planned → Type 0
  IsFoundFor depth p values (Found t) = IsPlanFor depth p values t
  IsFoundFor depth p values _ = ⊤

-- so it is of each plan that is found
abbrev pub PlansLead : Type 0
PlansLead =
    (agent : Agent) → WellFormed agent → (p : Prog) (values : Values) → IsSearched agent p values
    → (depth fuel : ℕ) (t : Tree) → planned agent depth fuel p values ≡ Found t
    → IsPlanFor agent depth p values t
