-- A theory that is being read, one item further.
use Rattle.std.proofs.Common.{◌≡◌, ℕ, Bool, true, false, List, [], ◌∷◌, ◌++◌, length, refl, sym, ap, ◌∙◌, cond}
use Rattle.std.specs.Prelude.{◌||◌, nat_eq}
use Rattle.std.specs.List.{list_any}
use Rattle.std.specs.BTreeSet as set
use Rattle.std.specs.BTreeSet.{BTreeSet, contains}
use Rattle.std.specs.Cmp.{unsigned_ties}
use Rattle.std.specs.Ordering.{nat_cmp, is_eq}
use Rattle.std.proofs.lemmas.List.Folds.{list_any-append}
use Rattle.golog_tree.specs.declared.draft.DraftTheory.{DraftTheory}
use Rattle.golog_tree.specs.declared.draft.DraftSort.{DraftSort}
use Rattle.golog_tree.specs.declared.draft.DraftFluent.{DraftFluent}
use Rattle.golog_tree.specs.declared.draft.DraftAction.{DraftAction}
use Rattle.golog_tree.specs.declared.draft.DraftDevice.{DraftDevice}
use Rattle.golog_tree.specs.declared.draft.DraftPoss.{DraftPoss}
use Rattle.golog_theory.specs.declared.index.Numbers.{Numbers}
use Rattle.golog_theory.specs.declared.index.Index.{Index}
use Rattle.golog_theory.specs.Names.{same, sort_name, lists}
use Rattle.golog_theory.specs.declared.draft.Draft.{Draft}
use Rattle.golog_theory.specs.Draft.{IsDraft, IsDraftOf}
use Rattle.golog_theory.specs.Effects.{has_poss}
use Rattle.golog_theory.specs.Items.{built_in}
use Rattle.golog_theory.specs.Started.{ground_cmp, starts_at}
use Rattle.golog_theory.specs.Index.{number_at, or_new, Finds, IsIndexOf}
use Rattle.golog_theory.proofs.Found.{finds_push}

abbrev Adds : Numbers → Numbers → (List ℕ → Bool) → ℕ → Type 0
Adds old new test n = (word : List ℕ) → number_at new word ≡ or_new (number_at old word) (test word) n

-- one more item with a name
named_pushed : {T : Type 0} (name : T → List ℕ) (old new : Numbers) (items : List T) (item : T) (n : ℕ) → Finds (λ word x. same word (name x)) old items → n ≡ length items
    → Adds old new (λ word. same word (name item)) n → Finds (λ word x. same word (name x)) new (items ++ item ∷ [])
named_pushed name old new items item n finds count adds =
    finds_push (λ word x. same word (name x)) old new items item finds (λ word. adds word ∙ ap (or_new (number_at old word) (same word (name item))) count)

pub fluent_pushed : (index : Index) (theory : DraftTheory) (numbers : Numbers) (fluent : DraftFluent) (n : ℕ) → IsIndexOf index theory → n ≡ length theory.fluents
    → Adds index.fluents numbers (λ word. same word fluent.name) n
    → IsIndexOf (record index { fluents = numbers }) (record theory { fluents = theory.fluents ++ fluent ∷ [] })
fluent_pushed index theory numbers fluent n is count adds =
    let fluents = named_pushed (λ (x : DraftFluent). x.name) index.fluents numbers theory.fluents fluent n is.fluents count adds in
    record { sorts = is.sorts; constants = is.constants; devices = is.devices; fluents = fluents; actions = is.actions }

pub action_pushed : (index : Index) (theory : DraftTheory) (numbers : Numbers) (action : DraftAction) (n : ℕ) → IsIndexOf index theory → n ≡ length theory.actions
    → Adds index.actions numbers (λ word. same word action.name) n
    → IsIndexOf (record index { actions = numbers }) (record theory { actions = theory.actions ++ action ∷ [] })
action_pushed index theory numbers action n is count adds =
    let actions = named_pushed (λ (x : DraftAction). x.name) index.actions numbers theory.actions action n is.actions count adds in
    record { sorts = is.sorts; constants = is.constants; devices = is.devices; fluents = is.fluents; actions = actions }

pub device_pushed : (index : Index) (theory : DraftTheory) (numbers : Numbers) (device : DraftDevice) (n : ℕ) → IsIndexOf index theory → n ≡ length theory.devices
    → Adds index.devices numbers (λ word. same word device.name) n
    → IsIndexOf (record index { devices = numbers }) (record theory { devices = theory.devices ++ device ∷ [] })
device_pushed index theory numbers device n is count adds =
    let devices = named_pushed (λ (x : DraftDevice). x.name) index.devices numbers theory.devices device n is.devices count adds in
    record { sorts = is.sorts; constants = is.constants; devices = devices; fluents = is.fluents; actions = is.actions }

pub sort_pushed : (index new : Index) (theory : DraftTheory) (sort : DraftSort) (n : ℕ) → IsIndexOf index theory → n ≡ length theory.sorts
    → Adds index.sorts new.sorts (λ word. same word (sort_name sort)) n
    → Adds index.constants new.constants (λ word. lists word sort) n
    → new.devices ≡ index.devices → new.fluents ≡ index.fluents → new.actions ≡ index.actions
    → IsIndexOf new (record theory { sorts = theory.sorts ++ sort ∷ [] })
sort_pushed index new theory sort n is count adds lists_more devices fluents actions = record {
  sorts = finds_push (λ word x. same word (sort_name x)) index.sorts new.sorts theory.sorts sort is.sorts
      (λ word. adds word ∙ ap (or_new (number_at index.sorts word) (same word (sort_name sort))) count);
  constants = finds_push lists index.constants new.constants theory.sorts sort is.constants
      (λ word. lists_more word ∙ ap (or_new (number_at index.constants word) (lists word sort)) count);
  devices = λ word. ap (λ m. number_at m word) devices ∙ is.devices word;
  fluents = λ word. ap (λ m. number_at m word) fluents ∙ is.fluents word;
  actions = λ word. ap (λ m. number_at m word) actions ∙ is.actions word;
}

-- an index is that of each theory with the same sorts, devices, fluents and actions
pub index_kept : (index : Index) (theory other : DraftTheory) → IsIndexOf index theory
    → other.sorts ≡ theory.sorts → other.devices ≡ theory.devices → other.fluents ≡ theory.fluents → other.actions ≡ theory.actions
    → IsIndexOf index other
index_kept index theory other is sorts devices fluents actions = record {
  sorts = rw sorts is.sorts;
  constants = rw sorts is.constants;
  devices = rw devices is.devices;
  fluents = rw fluents is.fluents;
  actions = rw actions is.actions;
}

-- so is a draft, with an index of what is declared, where preconditions and start values stay as they are
pub draft_kept : (draft : Draft) (index : Index) (theory : DraftTheory) → IsDraft draft → IsIndexOf index theory
    → draft.theory.poss ≡ theory.poss → draft.theory.starts ≡ theory.starts → IsDraftOf (record draft { index = index; theory = theory }) theory
draft_kept draft index theory is of_index poss starts = record {
  same = refl;
  kept = record {
    index = of_index;
    restricted = λ action. is.restricted action ∙ ap (λ items. has_poss items action) poss;
    started = λ cell. is.started cell ∙ ap (list_any (starts_at cell)) starts;
  };
}

-- the action of a new precondition is in the set
pub poss_pushed : (old new : BTreeSet ℕ) (items : List DraftPoss) (item : DraftPoss)
    → ((action : ℕ) → contains nat_cmp old action ≡ has_poss items action)
    → set.Updates nat_cmp old new item.action true
    → (action : ℕ) → contains nat_cmp new action ≡ has_poss (items ++ item ∷ []) action
poss_pushed old new items item was updates action =
    updates.0 action ∙ either (is_eq (nat_cmp item.action action)) (nat_eq item.action action) (contains nat_cmp old action) (has_poss items action) (sym (unsigned_ties item.action action)) (was action)
    ∙ sym (list_any-append (λ (x : DraftPoss). nat_eq x.action action) items (item ∷ []))
  where
    or-false : (b : Bool) → b ≡ (b || (false || false))
    or-false true = refl
    or-false false = refl

    either : (a b c d : Bool) → a ≡ b → c ≡ d → cond a true c ≡ (d || (b || false))
    either true true c true e f = refl
    either true true c false e f = refl
    either false false true d e f = f ∙ or-false d
    either false false false d e f = f ∙ or-false d
    either true false c d e f = absurd cc
    either false true c d e f = absurd cc

-- what is built in, of which no action has a precondition and no ground fluent a start value of its own
pub begun : (draft : Draft) → draft.theory ≡ built_in → IsIndexOf draft.index draft.theory
    → set.IsEmpty draft.restricted → set.IsEmpty draft.started → IsDraftOf draft built_in
unfolding built_in
begun draft is index restricted started = record {
  same = is;
  kept = record {
    index = index;
    restricted = λ action.
        ap (λ keys. list_any (λ k. is_eq (nat_cmp action k)) keys) restricted
        ∙ sym (ap (λ (theory : DraftTheory). has_poss theory.poss action) is);
    started = λ cell.
        ap (λ keys. list_any (λ k. is_eq (ground_cmp cell k)) keys) started
        ∙ sym (ap (λ (theory : DraftTheory). list_any (starts_at cell) theory.starts) is);
  };
}
