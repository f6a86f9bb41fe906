-- Laws of texts: different reports have different texts.
use Rattle.std.specs.Prelude.{◌≡◌, ◌<◌, ℕ, ℤ, IsTrue, Some, List, codes, slice_get, map, FitsSigned}
use Rattle.std.specs.Int.{w32}
use Rattle.golog_base.specs.Names.{is_name}
use Rattle.golog_tree.specs.declared.agent.Agent.{Agent}
use Rattle.golog_tree.specs.declared.agent.SortItem.{SortItem}
use Rattle.golog_tree.specs.declared.agent.SortItem.TheVariants.{Range, Listed}
use Rattle.golog_tree.specs.Ground.{item_size}
use Rattle.golog_semantics.specs.Text.{Text, constant_in}
use Rattle.golog_semantics.specs.Truth.{is_known}
use Rattle.golog_semantics.specs.WellFormed.{WellFormed}

-- names, no two of them the same
pub record AreDistinctNames (names : List Text) : Type 0 where
  pub named : (i : ℕ) (name : Text) → slice_get names i ≡ Some name → IsTrue (is_name name)
  pub distinct : (i j : ℕ) (name : Text) → slice_get names i ≡ Some name → slice_get names j
      ≡ Some name → i ≡ j

-- each constant of the sort has a text of its own
abbrev pub HasConstants : SortItem → Type 0
HasConstants (Range name low high) = FitsSigned w32 low × FitsSigned w32 high
HasConstants (Listed name constants) = AreDistinctNames constants

-- no constant of the sort is taken for an unknown value, by its position or by its text
abbrev pub AreKnown : SortItem → Type 0
AreKnown item =
    (value : ℕ) → value < item_size item → IsTrue (is_known value) × (constant_in item value ≡ codes "unknown" → ⊥)

-- different devices, actions and constants of a sort have different names, and no constant is taken for an unknown value
pub record TellsApart (agent : Agent) : Type 0 where
  pub devices : AreDistinctNames agent.devices
  pub actions : AreDistinctNames (map (λ item. item.name) agent.actions)
  pub constants : (sort : ℕ) (item : SortItem) → slice_get agent.sorts sort ≡ Some item → HasConstants item
  pub known : (sort : ℕ) (item : SortItem) → slice_get agent.sorts sort ≡ Some item → AreKnown item

-- the ends of sorts of whole numbers are in the range of their type
abbrev pub RangesFit : Agent → Type 0
RangesFit agent =
    (sort : ℕ) (name : Text) (low high : ℤ) → slice_get agent.sorts sort ≡ Some (Range name low high)
    → FitsSigned w32 low × FitsSigned w32 high

-- a well-formed agent tells its things apart
abbrev pub NamesTellApart : Type 0
NamesTellApart = (agent : Agent) → WellFormed agent → RangesFit agent → TellsApart agent
