-- A theory with one more item: what held of the items before still holds.
use Rattle.std.proofs.Common.{◌≡◌, ℕ, ◌+◌, ◌<◌, ◌≤◌, zero, suc, Bool, true, false, not, ◌&&◌, ◌||◌, ◌==◌, List, [], ◌∷◌, ◌++◌, length, map, Option, Some, None, refl, sym, ap, subst, ◌∙◌, arith}
use Rattle.std.proofs.lemmas.List.{length_push}
use Rattle.std.specs.Prelude.{nat_le, slice_get, is_some}
use Rattle.std.specs.List.{list_all}
use Rattle.std.specs.Option.{option_map_or}
use Rattle.golog_tree.specs.declared.draft.DraftTheory.{DraftTheory}
use Rattle.golog_tree.specs.declared.draft.DraftSort.{DraftSort}
use Rattle.golog_tree.specs.declared.draft.DraftFluent.{DraftFluent}
use Rattle.golog_tree.specs.declared.draft.DraftAction.{DraftAction}
use Rattle.golog_tree.specs.declared.draft.DraftDevice.{DraftDevice}
use Rattle.golog_tree.specs.declared.draft.DraftPoss.{DraftPoss}
use Rattle.golog_tree.specs.declared.draft.DraftCause.{DraftCause}
use Rattle.golog_tree.specs.declared.draft.DraftSense.{DraftSense}
use Rattle.golog_tree.specs.declared.draft.DraftStart.{DraftStart}
use Rattle.golog_tree.specs.declared.draft.DraftStart.TheVariants.{Each, One}
use Rattle.golog_tree.specs.declared.draft_cond.DraftArg.{DraftArg}
use Rattle.golog_theory.specs.declared.fluents.FluentItem.{FluentItem}
use Rattle.golog_draft.specs.DraftPlaces.{sort_place}
use Rattle.golog_theory.specs.Items.{with_fluent}
use Rattle.golog_semantics.specs.Ways.{is_empty}
use Rattle.golog_draft.specs.Drafts.{signature, fluent_keeps, cond_keeps, is_constant_at, is_draft_sort, is_draft_device, draft_args_keep, draft_fluent_keeps, draft_action_keeps, draft_action_at, draft_poss_keeps, draft_sense_keeps, draft_start_keeps}
use Rattle.golog_semantics.proofs.Tests.{and_more}
use Rattle.golog_theory.proofs.Kept.{all_still}
use Rattle.golog_theory.proofs.CauseVars.{any-late}
use Rattle.golog_theory.proofs.KeptStill.{DeclaresMore, cond-still, more}

-- a list with more elements at its end: what an element by its number has, it still has
pub record Begins {A : Type 0} (xs ys : List A) : Type 0 where
  pub longer : length xs ≤ length ys
  pub still : (holds : A → Bool) (n : ℕ) → option_map_or holds (slice_get xs n) false ≡ true → option_map_or holds (slice_get ys n) false ≡ true

none-more : {A : Type 0} (xs : List A) → Begins xs xs
none-more xs = record { longer = omega arith; still = λ holds n e. e }

push-still : {A : Type 0} (holds : A → Bool) (xs : List A) (x : A) (n : ℕ) → option_map_or holds (slice_get xs n) false ≡ true
    → option_map_or holds (slice_get (xs ++ x ∷ []) n) false ≡ true
push-still holds [] x n e = absurd cc
push-still holds (y ∷ xs) x zero e = e
push-still holds (y ∷ xs) x (suc n) e = push-still holds xs x n e

one-more : {A : Type 0} (xs : List A) (x : A) → Begins xs (xs ++ x ∷ [])
one-more xs x = record { longer = omega (arith, length_push xs x); still = λ holds n e. push-still holds xs x n e }

get-map : {A B : Type 0} (f : A → B) (holds : B → Bool) (xs : List A) (n : ℕ)
    → option_map_or holds (slice_get (map f xs) n) false ≡ option_map_or (λ x. holds (f x)) (slice_get xs n) false
get-map f holds [] n = refl
get-map f holds (x ∷ xs) zero = refl
get-map f holds (x ∷ xs) (suc n) = get-map f holds xs n

-- The other declares as much, and words before a place are the same constants.
pub record Grew (from : ℕ) (theory other : DraftTheory) : Type 0 where
  pub sorts : Begins theory.sorts other.sorts
  pub devices : Begins theory.devices other.devices
  pub fluents : Begins theory.fluents other.fluents
  pub actions : Begins theory.actions other.actions
  pub constants : (name : List ℕ) (at : ℕ) → at < from → is_constant_at theory name at ≡ is_constant_at other name at

module _ (from : ℕ) (theory : DraftTheory) where
  pub grew-sort : (at : ℕ) → from ≤ at → (item : DraftSort) → sort_place item ≡ at → Grew from theory (record theory { sorts = theory.sorts ++ item ∷ [] })
  grew-sort at le item placed = record {
    sorts = one-more theory.sorts item;
    devices = none-more theory.devices;
    fluents = none-more theory.fluents;
    actions = none-more theory.actions;
    constants = λ name at' before. sym (any-late name at' theory.sorts item (omega (arith, before, le, placed)));
  }

  -- more of the others, where sorts stay as they are
  grew-by : (other : DraftTheory) → theory.sorts ≡ other.sorts → Begins theory.devices other.devices → Begins theory.fluents other.fluents
      → Begins theory.actions other.actions → Grew from theory other
  grew-by other e devices fluents actions = record {
    sorts = subst (Begins theory.sorts) e (none-more theory.sorts);
    devices = devices;
    fluents = fluents;
    actions = actions;
    constants = λ name at before. ap (λ sorts. is_constant_at (record theory { sorts = sorts }) name at) e;
  }

  pub grew-device : (item : DraftDevice) → Grew from theory (record theory { devices = theory.devices ++ item ∷ [] })
  grew-device item = grew-by (record theory { devices = theory.devices ++ item ∷ [] }) refl (one-more theory.devices item) (none-more theory.fluents) (none-more theory.actions)

  pub grew-fluent : (at : ℕ) (item : FluentItem) → Grew from theory (with_fluent theory item at)
  grew-fluent at item = grew-by (with_fluent theory item at) refl (none-more theory.devices) (one-more theory.fluents item.fluent) (none-more theory.actions)

  pub grew-action : (item : DraftAction) → Grew from theory (record theory { actions = theory.actions ++ item ∷ [] })
  grew-action item = grew-by (record theory { actions = theory.actions ++ item ∷ [] }) refl (none-more theory.devices) (none-more theory.fluents) (one-more theory.actions item)

  pub grew-rest : (poss : List DraftPoss) (causes : List DraftCause) (senses : List DraftSense) (starts : List DraftStart)
      → Grew from theory (record theory { poss = poss; causes = causes; senses = senses; starts = starts })
  grew-rest poss causes senses starts =
      grew-by (record theory { poss = poss; causes = causes; senses = senses; starts = starts }) refl (none-more theory.devices) (none-more theory.fluents) (none-more theory.actions)

module _ (from : ℕ) (theory other : DraftTheory) (grew : Grew from theory other) where
  sort-still : (n : ℕ) → is_draft_sort theory n ≡ true → is_draft_sort other n ≡ true
  sort-still n e = more n (length theory.sorts) (length other.sorts) grew.sorts.longer e

  device-still : (n : ℕ) → is_draft_device theory n ≡ true → is_draft_device other n ≡ true
  device-still n e = more n (length theory.devices) (length other.devices) grew.devices.longer e

  fluent_at-still : (n : ℕ) (args : List DraftArg) → fluent_keeps (signature theory) n args ≡ true → fluent_keeps (signature other) n args ≡ true
  fluent_at-still n args e =
      let arity = λ (item : DraftFluent). length item.args in
      let fits = λ (count : ℕ). count == length args in
      get-map arity fits other.fluents n ∙ grew.fluents.still (λ item. fits (arity item)) n (sym (get-map arity fits theory.fluents n) ∙ e)

  pub action_at-still : (n count : ℕ) (holds : DraftAction → Bool) → draft_action_at theory n count holds ≡ true → draft_action_at other n count holds ≡ true
  action_at-still n count holds e = grew.actions.still (λ item. (length item.args == count) && holds item) n e

  pub declares-more : DeclaresMore theory other
  declares-more = record { sorts = grew.sorts.longer; fluents = fluent_at-still }

  args-still : (sorts : List ℕ) → draft_args_keep theory sorts ≡ true → draft_args_keep other sorts ≡ true
  args-still sorts =
      and_more (nat_le (length sorts) 3) (nat_le (length sorts) 3) (list_all (is_draft_sort theory) sorts) (list_all (is_draft_sort other) sorts)
      (λ e. e) (all_still (is_draft_sort theory) (is_draft_sort other) sorts sort-still)

  pub fluent-still : (item : DraftFluent) → draft_fluent_keeps theory item ≡ true → draft_fluent_keeps other item ≡ true
  fluent-still item =
      and_more (draft_args_keep theory item.args) (draft_args_keep other item.args) (is_draft_sort theory item.sort) (is_draft_sort other item.sort)
      (args-still item.args) (sort-still item.sort)

  own_device-still : (device : Option ℕ) → option_map_or (is_draft_device theory) device true ≡ true → option_map_or (is_draft_device other) device true ≡ true
  own_device-still None e = e
  own_device-still (Some n) e = device-still n e

  pub action-still : (item : DraftAction) → draft_action_keeps theory item ≡ true → draft_action_keeps other item ≡ true
  action-still item =
      let last = is_empty item.posters || not (is_some item.device) in
      let posters = list_all (is_draft_device theory) item.posters in let posters' = list_all (is_draft_device other) item.posters in
      let device = option_map_or (is_draft_device theory) item.device true in let device' = option_map_or (is_draft_device other) item.device true in
      let args = draft_args_keep theory item.args in let args' = draft_args_keep other item.args in
      and_more (args && device && posters) (args' && device' && posters') last last
      (and_more (args && device) (args' && device') posters posters'
      (and_more args args' device device' (args-still item.args) (own_device-still item.device))
      (all_still (is_draft_device theory) (is_draft_device other) item.posters device-still)) (λ e. e)

  pub poss-still : (item : DraftPoss) → draft_poss_keeps theory item ≡ true → draft_poss_keeps other item ≡ true
  poss-still item =
      let at = draft_action_at theory item.action (length item.vars) (λ action. is_empty action.posters) in
      let at' = draft_action_at other item.action (length item.vars) (λ action. is_empty action.posters) in
      and_more (at && nat_le 2 item.action) (at' && nat_le 2 item.action) (cond_keeps (signature theory) item.cond (length item.vars)) (cond_keeps (signature other) item.cond (length item.vars))
      (and_more at at' (nat_le 2 item.action) (nat_le 2 item.action) (action_at-still item.action (length item.vars) (λ action. is_empty action.posters)) (λ e. e))
      (cond-still theory other declares-more item.cond (length item.vars))

  pub sense-still : (item : DraftSense) → draft_sense_keeps theory item ≡ true → draft_sense_keeps other item ≡ true
  sense-still item =
      and_more (draft_action_at theory item.action (length item.vars) (λ _. true)) (draft_action_at other item.action (length item.vars) (λ _. true))
      (fluent_keeps (signature theory) item.fluent item.args) (fluent_keeps (signature other) item.fluent item.args)
      (action_at-still item.action (length item.vars) (λ _. true)) (fluent_at-still item.fluent item.args)

  pub start-still : (item : DraftStart) → draft_start_keeps theory item ≡ true → draft_start_keeps other item ≡ true
  start-still (Each fluent value at) e = more fluent (length theory.fluents) (length other.fluents) grew.fluents.longer e
  start-still (One fluent args value at) e = fluent_at-still fluent args e

pub ruleset laws = (poss-still)
