-- Where the names of a theory stand: maps that agree with its lists.
use Rattle.std.specs.Prelude.{◌≡◌, ℕ, nat_lt, Bool, if◌then◌else◌, List, length, Option, Some, None, position}
use Rattle.std.specs.HashMap.{get_by}
use Rattle.golog_tree.specs.declared.draft.DraftSort.{DraftSort}
use Rattle.golog_tree.specs.declared.draft.DraftFluent.{DraftFluent}
use Rattle.golog_tree.specs.declared.draft.DraftAction.{DraftAction}
use Rattle.golog_tree.specs.declared.draft.DraftDevice.{DraftDevice}
use Rattle.golog_tree.specs.declared.draft.DraftTheory.{DraftTheory}
use Rattle.golog_theory.specs.declared.index.Numbers.{Numbers}
use Rattle.golog_theory.specs.declared.index.Index.{Index}
use Rattle.golog_theory.specs.Names.{same, sort_name, lists}

-- the number at a word, where it has one
abbrev pub number_at : Numbers → List ℕ → Option ℕ
number_at numbers word = get_by (λ key. same word key.items) numbers.by_name

-- the number so far, or else the new one where it is for the word
abbrev pub or_new : Option ℕ → Bool → ℕ → Option ℕ
or_new (Some number) is_for new = Some number
or_new None is_for new = if is_for then Some new else None

-- each word has the number of the first item that stands for it
abbrev pub Finds : {T : Type 0} → (List ℕ → T → Bool) → Numbers → List T → Type 0
Finds stands_for numbers items = (word : List ℕ) → number_at numbers word ≡ position (stands_for word) items

-- the numbers of what a theory declares, and of the sort that lists a constant
pub record IsIndexOf (index : Index) (theory : DraftTheory) : Type 0 where
  pub sorts : Finds (λ word sort. same word (sort_name sort)) index.sorts theory.sorts
  pub constants : Finds lists index.constants theory.sorts
  pub devices : Finds (λ word (device : DraftDevice). same word device.name) index.devices theory.devices
  pub fluents : Finds (λ word (fluent : DraftFluent). same word fluent.name) index.fluents theory.fluents
  pub actions : Finds (λ word (action : DraftAction). same word action.name) index.actions theory.actions

-- the number, where it is below the limit
abbrev pub below : ℕ → Option ℕ → Option ℕ
below limit None = None
below limit (Some number) = if nat_lt number limit then Some number else None

-- each word has the number of the first item that stands for it, but for numbers of items behind the last
abbrev pub FindsBelow : {T : Type 0} → (List ℕ → T → Bool) → Numbers → List T → Type 0
FindsBelow stands_for numbers items = (word : List ℕ) →
    below (length items) (number_at numbers word) ≡ position (stands_for word) items

-- the theory with these declarations
abbrev pub declared : DraftTheory → List DraftSort → List DraftDevice → List DraftFluent → List DraftAction → DraftTheory
declared theory sorts devices fluents actions =
    record theory { sorts = sorts; devices = devices; fluents = fluents; actions = actions }

-- the numbers of what a theory declares, maybe among numbers of what is declared behind it
pub record IsIndexUpTo (index : Index) (theory : DraftTheory) : Type 0 where
  pub sorts : FindsBelow (λ word sort. same word (sort_name sort)) index.sorts theory.sorts
  pub constants : FindsBelow lists index.constants theory.sorts
  pub devices : FindsBelow (λ word (device : DraftDevice). same word device.name) index.devices theory.devices
  pub fluents : FindsBelow (λ word (fluent : DraftFluent). same word fluent.name) index.fluents theory.fluents
  pub actions : FindsBelow (λ word (action : DraftAction). same word action.name) index.actions theory.actions
