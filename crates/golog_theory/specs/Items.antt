-- The items of an agent file but `proc` and `main`, one after another, and the theory that they make.
use Rattle.std.specs.Prelude.{ℕ, not, List, [], ◌∷◌, ◌++◌, length, Option, Some, None, codes}
use Rattle.golog_form.specs.declared.form.Form.{Form}
use Rattle.golog_form.specs.Shape.{place_of}
use Rattle.golog_tree.specs.declared.draft.DraftTheory.{DraftTheory}
use Rattle.golog_tree.specs.declared.draft.DraftStart.TheVariants.{Each}
use Rattle.golog_tree.specs.declared.draft_cond.DraftArg.TheVariants.{Word}
use Rattle.golog_draft.specs.Drafts.{draft_bool, draft_running, draft_own_action, draft_sets_running}
use Rattle.golog_theory.specs.Codes.{UNKNOWN_FORM}
use Rattle.golog_theory.specs.Reading.{Reading, gives, refused, row, ◌>>=◌}
use Rattle.golog_theory.specs.Names.{same}
use Rattle.golog_theory.specs.Keywords.{item_keyword}
use Rattle.golog_theory.specs.declared.keyword.ItemKeyword.{ItemKeyword}
use Rattle.golog_theory.specs.declared.keyword.ItemKeyword.TheVariants.{Sort, Device, Fluent, Start, Action, Exo, Poss, Causes, Senses, Proc, Main}
use Rattle.golog_theory.specs.Heads.{head_word, arguments}
use Rattle.golog_theory.specs.Sorts.{sort_item}
use Rattle.golog_theory.specs.Fluents.{fluent_item, start_item}
use Rattle.golog_theory.specs.Actions.{device_item, action_item, exo_item}
use Rattle.golog_theory.specs.Effects.{poss_item, causes_item, senses_item}
use Rattle.golog_theory.specs.declared.fluents.FluentItem.{FluentItem}

-- What is built in: the sort `bool`, the fluent `interrupts_running`, which starts false, and the actions
-- that make it true and false.
unfoldable pub built_in : DraftTheory
built_in = record {
  sorts = draft_bool ∷ [];
  fluents = draft_running ∷ [];
  actions = draft_own_action (codes "start_interrupts") ∷ draft_own_action (codes "stop_interrupts") ∷ [];
  devices = [];
  poss = [];
  causes = draft_sets_running 0 (codes "true") ∷ draft_sets_running 1 (codes "false") ∷ [];
  senses = [];
  starts = Each 0 (Some (Word (codes "false") 0)) 0 ∷ [];
}

-- the theory with a fluent and its start value
abbrev pub with_fluent : DraftTheory → FluentItem → ℕ → DraftTheory
with_fluent theory item at = record theory {
  fluents = theory.fluents ++ item.fluent ∷ [];
  starts = theory.starts ++ Each (length theory.fluents) item.value at ∷ [];
}

-- a `fluent` item, put into the theory with the start value that it gives
unfoldable pub fluent_read : DraftTheory → ℕ → List Form → Reading DraftTheory
fluent_read theory at parts = fluent_item theory at parts >>= λ item. gives (with_fluent theory item at)

-- An item put into the theory by its keyword. A `proc` or a `main` is passed over.
unfoldable pub read_as : DraftTheory → ℕ → ItemKeyword → List Form → Reading DraftTheory
read_as theory at Sort parts =
    sort_item theory at parts >>= λ item. gives (record theory { sorts = theory.sorts ++ item ∷ [] })
read_as theory at Device parts =
    device_item theory at parts >>= λ item. gives (record theory { devices = theory.devices ++ item ∷ [] })
read_as theory at Fluent parts = fluent_read theory at parts
read_as theory at Start parts =
    start_item theory at parts >>= λ item. gives (record theory { starts = theory.starts ++ item ∷ [] })
read_as theory at Action parts =
    action_item theory at parts >>= λ item. gives (record theory { actions = theory.actions ++ item ∷ [] })
read_as theory at Exo parts =
    exo_item theory at parts >>= λ item. gives (record theory { actions = theory.actions ++ item ∷ [] })
read_as theory at Poss parts =
    poss_item theory at parts >>= λ item. gives (record theory { poss = theory.poss ++ item ∷ [] })
read_as theory at Causes parts =
    causes_item theory at parts >>= λ item. gives (record theory { causes = theory.causes ++ item ∷ [] })
read_as theory at Senses parts =
    senses_item theory at parts >>= λ item. gives (record theory { senses = theory.senses ++ item ∷ [] })
read_as theory at Proc parts = gives theory
read_as theory at Main parts = gives theory

abbrev pub read_by : DraftTheory → ℕ → Option ItemKeyword → List Form → Reading DraftTheory
read_by theory at None parts = refused UNKNOWN_FORM at
read_by theory at (Some keyword) parts = read_as theory at keyword parts

-- the theory after an item
abbrev pub item_read : DraftTheory → Form → Reading DraftTheory
item_read theory form = read_by theory (place_of form) (item_keyword (head_word form)) (arguments form)

-- the theory after these items, one after another
abbrev pub items_read : DraftTheory → List Form → Reading DraftTheory
items_read theory [] = gives theory
items_read theory (form ∷ forms) = item_read theory form >>= λ next. items_read next forms

-- `(agent ITEM ITEM)`: the theory that its items make of what is built in
unfoldable pub theory_of : Form → Reading DraftTheory
theory_of form =
    row (not (same (head_word form) (codes "agent"))) UNKNOWN_FORM (place_of form)
    (items_read built_in (arguments form))
