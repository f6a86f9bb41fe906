-- What the items that declare fluents, devices and actions keep.
use Rattle.std.proofs.Common.{◌≡◌, ℕ, ◌<◌, Bool, true, false, ◌||◌, List, [], ◌∷◌, length, Some, None, refl, arith}
use Rattle.std.specs.Prelude.{nat_le}
use Rattle.std.specs.List.{list_all}
use Rattle.golog_base.proofs.Bools.{or-true}
use Rattle.golog_form.specs.declared.form.Form.{Form}
use Rattle.golog_tree.specs.declared.draft.DraftTheory.{DraftTheory}
use Rattle.golog_tree.specs.declared.draft.DraftFluent.{DraftFluent}
use Rattle.golog_tree.specs.declared.draft.DraftAction.{DraftAction}
use Rattle.golog_tree.specs.declared.draft.DraftDevice.{DraftDevice}
use Rattle.golog_theory.specs.declared.fluents.FluentItem.{FluentItem}
use Rattle.golog_theory.specs.Reading.{Reading, gives, refused, row, each}
use Rattle.golog_theory.specs.Parts.{new_name, sort_of}
use Rattle.golog_theory.specs.Fluents.{sorts_of, start_value, fluent_of, fluent_item}
use Rattle.golog_theory.specs.Actions.{device_item, device_of, action_of, action_item, exo_item}
use Rattle.golog_draft.specs.Drafts.{is_draft_device, draft_args_keep, draft_fluent_keeps, draft_action_keeps}
use Rattle.golog_semantics.specs.Ways.{is_empty}
use Rattle.golog_theory.proofs.Yields.{Yields, gives-yields, refused-yields, row-yields, then-yields, each-yields}
use Rattle.golog_theory.proofs.Kept.{IsNew, new_name-yields, sort_of-yields, device_of-yields, sorts_of-yields, all_push}

pub record FluentFits (theory : DraftTheory) (at : ℕ) (item : DraftFluent) : Type 0 where
  pub name : IsNew theory item.name
  pub keeps : draft_fluent_keeps theory item ≡ true
  pub placed : item.at ≡ at

pub record ActionFits (theory : DraftTheory) (at : ℕ) (item : DraftAction) : Type 0 where
  pub name : IsNew theory item.name
  pub keeps : draft_action_keeps theory item ≡ true
  pub placed : item.at ≡ at

pub record DeviceFits (theory : DraftTheory) (item : DraftDevice) : Type 0 where
  pub name : IsNew theory item.name
  pub few : length theory.devices < 16

module _ (theory : DraftTheory) where
  fluent_of-yields : (at : ℕ) (name sorts sort : Form) → Yields (FluentFits theory at) (fluent_of theory at name sorts sort)
  unfolding fluent_of
  fluent_of-yields at name sorts sort =
      then-yields _ _ (new_name theory name).outcome _ (new_name-yields theory name) (λ name' named.
      then-yields _ _ (sorts_of theory sorts).outcome _ (sorts_of-yields theory sorts) (λ args' keep.
      then-yields _ _ (sort_of theory sort).outcome _ (sort_of-yields theory sort) (λ sort' is.
      gives-yields (FluentFits theory at) (record { name = name'; args = args'; sort = sort'; at = at })
      (record { name = named; keeps = rw (keep, is) refl; placed = refl }))))

  pub fluent_item-yields : (at : ℕ) (fs : List Form) → Yields (λ (item : FluentItem). FluentFits theory at item.fluent) (fluent_item theory at fs)
  unfolding fluent_item
  fluent_item-yields at [] = refused-yields _ 20 at
  fluent_item-yields at (name ∷ []) = refused-yields _ 20 at
  fluent_item-yields at (name ∷ sorts ∷ []) = refused-yields _ 20 at
  fluent_item-yields at (name ∷ sorts ∷ sort ∷ []) =
      then-yields _ _ (fluent_of theory at name sorts sort).outcome _ (fluent_of-yields at name sorts sort)
      (λ fluent' fits. gives-yields (λ (item : FluentItem). FluentFits theory at item.fluent) (record { fluent = fluent'; value = None }) fits)
  fluent_item-yields at (name ∷ sorts ∷ sort ∷ value ∷ []) =
      then-yields _ _ (fluent_of theory at name sorts sort).outcome _ (fluent_of-yields at name sorts sort) (λ fluent' fits.
      then-yields (λ _. Unit {0}) _ (start_value theory value).outcome _ (λ x e. tt)
      (λ value' is. gives-yields (λ (item : FluentItem). FluentFits theory at item.fluent) (record { fluent = fluent'; value = value' }) fits))
  fluent_item-yields at (name ∷ sorts ∷ sort ∷ value ∷ other ∷ fs) = refused-yields _ 20 at

  pub device_item-yields : (at : ℕ) (fs : List Form) → Yields (DeviceFits theory) (device_item theory at fs)
  unfolding device_item
  device_item-yields at [] = refused-yields (DeviceFits theory) 20 at
  device_item-yields at (name ∷ []) =
      row-yields _ (nat_le 16 (length theory.devices)) (25, at) _ (λ few.
      then-yields _ _ (new_name theory name).outcome _ (new_name-yields theory name) (λ name' named.
      gives-yields (DeviceFits theory) (record { name = name'; at = at })
      (record { name = named; few = is_less (length theory.devices) few })))
    where
      is_less : (n : ℕ) → nat_le 16 n ≡ false → n < 16
      is_less n e = grind arith
  device_item-yields at (name ∷ other ∷ fs) = refused-yields (DeviceFits theory) 20 at

  -- an action with no device yet
  record Bare (at : ℕ) (item : DraftAction) : Type 0 where
    name : IsNew theory item.name
    placed : item.at ≡ at
    args : draft_args_keep theory item.args ≡ true
    device : item.device ≡ None
    posters : item.posters ≡ []

  action_of-yields : (at : ℕ) (name sorts : Form) → Yields (Bare at) (action_of theory at name sorts)
  unfolding action_of
  action_of-yields at name sorts =
      then-yields _ _ (new_name theory name).outcome _ (new_name-yields theory name) (λ name' named.
      then-yields _ _ (sorts_of theory sorts).outcome _ (sorts_of-yields theory sorts) (λ args' keep.
      gives-yields (Bare at) (record { name = name'; args = args'; device = None; posters = []; at = at })
      (record { name = named; placed = refl; args = keep; device = refl; posters = refl })))

  own-keeps : (at : ℕ) (item : DraftAction) → Bare at item → draft_action_keeps theory item ≡ true
  own-keeps at item bare = rw (bare.args, bare.device, bare.posters) refl

  sent-keeps : (at : ℕ) (item : DraftAction) (device : ℕ) → Bare at item → is_draft_device theory device ≡ true → draft_action_keeps theory (record item { device = Some device }) ≡ true
  sent-keeps at item device bare is = rw (bare.args, is, bare.posters) refl

  posted-keeps : (at : ℕ) (item : DraftAction) (posters : List ℕ) → Bare at item → list_all (is_draft_device theory) posters ≡ true → draft_action_keeps theory (record item { posters = posters }) ≡ true
  posted-keeps at item posters bare are = rw (bare.args, bare.device, are, or-true (is_empty posters)) refl

  pub action_item-yields : (at : ℕ) (fs : List Form) → Yields (ActionFits theory at) (action_item theory at fs)
  unfolding action_item
  action_item-yields at [] = refused-yields (ActionFits theory at) 20 at
  action_item-yields at (name ∷ []) = refused-yields (ActionFits theory at) 20 at
  action_item-yields at (name ∷ sorts ∷ []) = λ item e.
      let bare = action_of-yields at name sorts item e in record { name = bare.name; keeps = own-keeps at item bare; placed = bare.placed }
  action_item-yields at (name ∷ sorts ∷ device ∷ []) =
      then-yields _ _ (action_of theory at name sorts).outcome _ (action_of-yields at name sorts) (λ action' bare.
      then-yields _ _ (device_of theory device).outcome _ (device_of-yields theory device) (λ device' is.
      gives-yields (ActionFits theory at) (record action' { device = Some device' }) (record { name = bare.name; keeps = sent-keeps at action' device' bare is; placed = bare.placed })))
  action_item-yields at (name ∷ sorts ∷ device ∷ other ∷ fs) = refused-yields (ActionFits theory at) 20 at

  pub exo_item-yields : (at : ℕ) (fs : List Form) → Yields (ActionFits theory at) (exo_item theory at fs)
  unfolding exo_item
  exo_item-yields at [] = refused-yields (ActionFits theory at) 20 at
  exo_item-yields at (name ∷ []) = refused-yields (ActionFits theory at) 20 at
  exo_item-yields at (name ∷ sorts ∷ []) = refused-yields (ActionFits theory at) 20 at
  exo_item-yields at (name ∷ sorts ∷ device ∷ devices) =
      then-yields _ _ (action_of theory at name sorts).outcome _ (action_of-yields at name sorts) (λ action' bare.
      then-yields _ _ (each (λ (_ : List ℕ). device_of theory) [] (device ∷ devices)).outcome _
      (each-yields (λ posters. list_all (is_draft_device theory) posters ≡ true) (λ (_ : List ℕ). device_of theory)
      (λ before part held d is. all_push (is_draft_device theory) before d held (device_of-yields theory part d is)) [] (device ∷ devices) refl)
      (λ posters' are. gives-yields (ActionFits theory at) (record action' { posters = posters' }) (record { name = bare.name; keeps = posted-keeps at action' posters' bare are.0; placed = bare.placed })))

pub ruleset laws = (fluent_item-yields, action_item-yields, exo_item-yields, device_item-yields)
