-- The names of a well-formed agent's things are words.
use Rattle.std.proofs.Common.{◌≡◌, ℕ, zero, suc, ◌<◌, true, false, List, [], ◌∷◌, ◌++◌, length, map, refl, sym, subst, Some, arith, inl, inr}
use Rattle.std.specs.Prelude.{not, slice_get}
use Rattle.std.specs.List.{flat_map, list_all, IsDistinct}
use Rattle.std.specs.Option.{option_map_or}
use Rattle.std.proofs.lemmas.Bool.{ltb-true}
use Rattle.golog_base.specs.Names.{IsWord}
use Rattle.golog_tree.specs.declared.agent.Agent.{Agent}
use Rattle.golog_tree.specs.declared.agent.SortItem.{SortItem}
use Rattle.golog_tree.specs.declared.agent.SortItem.TheVariants.{Range, Listed}
use Rattle.golog_tree.specs.declared.agent.FluentItem.{FluentItem}
use Rattle.golog_tree.specs.declared.agent.ActionItem.{ActionItem}
use Rattle.golog_tree.specs.declared.agent.ProcItem.{ProcItem}
use Rattle.golog_semantics.specs.Text.{Text}
use Rattle.golog_semantics.specs.BuiltIn.{sort_names, declared_names, same_text, is_keyword}
use Rattle.golog_semantics.specs.WellFormed.{WellFormed}
use Rattle.golog_semantics.specs.Fits.{is_sort}
use Rattle.golog_semantics.proofs.NoBlocks.{not_so}
use Rattle.golog_semantics.proofs.Words.{and-left, and-right}
use Rattle.golog_semantics.proofs.WellNamed.{distinct-left, distinct-right}
use Rattle.golog_semantics.proofs.Among.{Among, contains-among, among-get, among-left, among-right, flat-among, map-among}
use Rattle.golog_print.specs.Printing.{sort_item_name, sort_name}

-- within a list there is an item
pub there-is : {A : Type 0} (xs : List A) (i : ℕ) → i < length xs → (x : A) × (slice_get xs i ≡ Some x)
there-is [] i h = absurd (omega (arith, h))
there-is (x ∷ xs) zero h = (x, refl)
there-is (x ∷ xs) (suc i) h = there-is xs i (omega (arith, h))

module _ (agent : Agent) (formed : WellFormed agent) where
  abbrev of_sorts : List Text
  of_sorts = flat_map sort_names agent.sorts

  abbrev of_fluents : List Text
  of_fluents = map (λ (item : FluentItem). item.name) agent.fluents

  abbrev of_actions : List Text
  of_actions = map (λ (item : ActionItem). item.name) agent.actions

  abbrev of_procs : List Text
  of_procs = map (λ (item : ProcItem). item.name) agent.procs

  pub word : (name : Text) → Among (declared_names agent) name → IsWord name
  word name a =
      let r = contains-among (declared_names agent) name a in subst IsWord r.2 (formed.names.words r.0 name r.1)

  pub sort-among : (sort : ℕ) (item : SortItem) (name : Text) → slice_get agent.sorts sort ≡ Some item → Among (sort_names item) name → Among (declared_names agent) name
  sort-among sort item name e a =
      among-left _ of_procs name (among-left _ of_actions name (among-left _ of_fluents name (among-left of_sorts agent.devices name
      (flat-among sort_names agent.sorts item name (among-get agent.sorts sort item e) a))))

  pub sort-word : (sort : ℕ) (item : SortItem) (name : Text) → slice_get agent.sorts sort ≡ Some item → Among (sort_names item) name → IsWord name
  sort-word sort item name e a = word name (sort-among sort item name e a)

  pub fluent-among : (fluent : ℕ) (item : FluentItem) → slice_get agent.fluents fluent ≡ Some item → Among (declared_names agent) item.name
  fluent-among fluent item e =
      among-left _ of_procs item.name (among-left _ of_actions item.name (among-right (of_sorts ++ agent.devices) of_fluents item.name
      (map-among (λ (item : FluentItem). item.name) agent.fluents item (among-get agent.fluents fluent item e))))

  pub fluent-word : (fluent : ℕ) (item : FluentItem) → slice_get agent.fluents fluent ≡ Some item → IsWord item.name
  fluent-word fluent item e = word item.name (fluent-among fluent item e)

  pub action-word : (action : ℕ) (item : ActionItem) → slice_get agent.actions action ≡ Some item → IsWord item.name
  action-word action item e =
      word item.name (among-left _ of_procs item.name (among-right ((of_sorts ++ agent.devices) ++ of_fluents) of_actions item.name
      (map-among (λ (item : ActionItem). item.name) agent.actions item (among-get agent.actions action item e))))

  pub proc-word : (proc : ℕ) (item : ProcItem) → slice_get agent.procs proc ≡ Some item → IsWord item.name
  proc-word proc item e =
      word item.name (among-right (((of_sorts ++ agent.devices) ++ of_fluents) ++ of_actions) of_procs item.name
      (map-among (λ (item : ProcItem). item.name) agent.procs item (among-get agent.procs proc item e)))

  -- the names of each kind are declared once
  pub sorts-once : IsDistinct same_text (flat_map sort_names agent.sorts)
  sorts-once =
      distinct-left of_sorts agent.devices (distinct-left (of_sorts ++ agent.devices) of_fluents
      (distinct-left ((of_sorts ++ agent.devices) ++ of_fluents) of_actions (distinct-left (((of_sorts ++ agent.devices) ++ of_fluents) ++ of_actions) of_procs formed.names.once)))

  pub fluents-once : IsDistinct same_text (map (λ (item : FluentItem). item.name) agent.fluents)
  fluents-once =
      distinct-right (of_sorts ++ agent.devices) of_fluents
      (distinct-left ((of_sorts ++ agent.devices) ++ of_fluents) of_actions (distinct-left (((of_sorts ++ agent.devices) ++ of_fluents) ++ of_actions) of_procs formed.names.once))

  pub actions-once : IsDistinct same_text (map (λ (item : ActionItem). item.name) agent.actions)
  actions-once =
      distinct-right ((of_sorts ++ agent.devices) ++ of_fluents) of_actions (distinct-left (((of_sorts ++ agent.devices) ++ of_fluents) ++ of_actions) of_procs formed.names.once)

  pub procs-once : IsDistinct same_text (map (λ (item : ProcItem). item.name) agent.procs)
  procs-once = distinct-right (((of_sorts ++ agent.devices) ++ of_fluents) ++ of_actions) of_procs formed.names.once

  -- no declared name is a keyword of a condition
  pub no-keyword : (name : Text) → Among (declared_names agent) name → is_keyword name ≡ false
  no-keyword name a = go (declared_names agent) formed.names.free a
    where
      go : (names : List Text) → list_all (λ name. not (is_keyword name)) names ≡ true → Among names name → is_keyword name ≡ false
      go [] h a = absurd a
      go (x ∷ xs) h (inl e) = subst (λ y. is_keyword y ≡ false) e (not_so (is_keyword x) (and-left (not (is_keyword x)) (list_all (λ name. not (is_keyword name)) xs) h))
      go (x ∷ xs) h (inr b) = go xs (and-right (not (is_keyword x)) (list_all (λ name. not (is_keyword name)) xs) h) b

  pub own-name : (item : SortItem) → Among (sort_names item) (sort_item_name agent item)
  own-name (Range name low high) = inl refl
  own-name (Listed name constants) = inl refl

  -- the name of a sort
  pub sort-name-word : (sort : ℕ) → is_sort agent sort ≡ true → IsWord (sort_name agent sort)
  sort-name-word sort h =
      let item = there-is agent.sorts sort (ltb-true sort (length agent.sorts) h) in
      subst (λ o. IsWord (option_map_or (sort_item_name agent) o [])) (sym item.1) (sort-word sort item.0 (sort_item_name agent item.0) item.1 (own-name item.0))

pub ruleset laws = (sort-name-word)
