-- What is declared where a draft stands.
pub use Rattle.golog_shapes.specs.Shapes.{param_sorts}
use Rattle.std.specs.Prelude.{ℕ, ◌≤◌, List, [], length, map, All}
use Rattle.golog_tree.specs.declared.agent.SortItem.{SortItem}
use Rattle.golog_tree.specs.declared.agent.SortItem.TheVariants as item
use Rattle.golog_tree.specs.declared.agent.FluentItem.{FluentItem}
use Rattle.golog_tree.specs.declared.agent.ActionItem.{ActionItem}
use Rattle.golog_tree.specs.declared.agent.Agent.{Agent}
use Rattle.golog_tree.specs.declared.draft.DraftSort.{DraftSort}
use Rattle.golog_tree.specs.declared.draft.DraftSort.TheVariants.{Range, Listed}
use Rattle.golog_tree.specs.declared.draft.DraftFluent.{DraftFluent}
use Rattle.golog_tree.specs.declared.draft.DraftAction.{DraftAction}
use Rattle.golog_tree.specs.declared.draft.DraftProc.{DraftProc}
use Rattle.golog_tree.specs.declared.draft.DraftTheory.{DraftTheory}
use Rattle.golog_tree.specs.Ground.{item_size}
use Rattle.golog_draft.specs.DraftPlaces.{sort_place}

-- Sorts, fluents and actions by their numbers, the sorts of each procedure's parameters, and the places of
-- the items of sorts. A sort without a place is declared everywhere.
pub record Declared : Type 0 where
  pub sorts : List SortItem
  pub places : List ℕ
  pub fluents : List FluentItem
  pub actions : List ActionItem
  pub params : List (List ℕ)

-- there are at most 64 sorts, each with at most 255 constants
pub record HasFewSorts (items : List SortItem) : Type 0 where
  pub sorts : length items ≤ 64
  pub constants : All (λ item. item_size item ≤ 255) items

-- an item without its place
abbrev pub sort_item : DraftSort → SortItem
sort_item (Range name low high at) = item.Range name low high
sort_item (Listed name constants at) = item.Listed name constants

abbrev pub fluent_item : DraftFluent → FluentItem
fluent_item draft = record { name = draft.name; args = draft.args; sort = draft.sort }

abbrev pub action_item : DraftAction → ActionItem
action_item draft =
    record { name = draft.name; args = draft.args; device = draft.device; posters = draft.posters }

-- what a theory and the procedures beside it declare
abbrev pub declared_by : DraftTheory → List DraftProc → Declared
declared_by theory procs = record {
  sorts = map sort_item theory.sorts;
  places = map sort_place theory.sorts;
  fluents = map fluent_item theory.fluents;
  actions = map action_item theory.actions;
  params = map param_sorts procs;
}

-- what an agent declares for a condition, which calls no procedure
abbrev pub declared_in : Agent → Declared
declared_in agent =
    record { sorts = agent.sorts; places = []; fluents = agent.fluents; actions = agent.actions; params = [] }
