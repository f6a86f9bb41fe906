-- A theory that was read: what each of its lists keeps, up to a place, is kept by the items behind it.
use Rattle.std.proofs.Common.{◌≡◌, ℕ, ◌+◌, ◌<◌, ◌≤◌, true, false, not, List, [], ◌∷◌, ◌++◌, length, map, take, Option, Some, None, refl, sym, subst, arith}
use Rattle.std.proofs.lemmas.List.{length_push}
use Rattle.std.proofs.lemmas.List.Elements.{All-nil, All-push}
use Rattle.std.specs.Prelude.{codes, nat_eq, nat_lt, All}
use Rattle.std.specs.List.{list_all, AllByRecursion, IsDistinct}
use Rattle.golog_form.specs.declared.form.Form.{Form}
use Rattle.golog_form.specs.Shape.{place_of}
use Rattle.golog_form.specs.Places.{IsInOrder}
use Rattle.golog_tree.specs.declared.draft.DraftTheory.{DraftTheory}
use Rattle.golog_tree.specs.declared.draft.DraftSort.{DraftSort}
use Rattle.golog_tree.specs.declared.draft.DraftFluent.{DraftFluent}
use Rattle.golog_tree.specs.declared.draft.DraftAction.{DraftAction}
use Rattle.golog_tree.specs.declared.draft.DraftDevice.{DraftDevice}
use Rattle.golog_tree.specs.declared.draft.DraftPoss.{DraftPoss}
use Rattle.golog_tree.specs.declared.draft.DraftCause.{DraftCause}
use Rattle.golog_tree.specs.declared.draft.DraftSense.{DraftSense}
use Rattle.golog_tree.specs.declared.draft.DraftStart.{DraftStart}
use Rattle.golog_tree.specs.declared.draft.DraftStart.TheVariants.{Each}
use Rattle.golog_tree.specs.declared.draft_cond.DraftArg.TheVariants.{Word}
use Rattle.golog_tree.specs.declared.draft_cond.DraftCond.TheVariants.{Truth}
use Rattle.golog_theory.specs.declared.fluents.FluentItem.{FluentItem}
use Rattle.golog_theory.specs.declared.keyword.ItemKeyword.{ItemKeyword}
use Rattle.golog_theory.specs.declared.keyword.ItemKeyword.TheVariants as keyword
use Rattle.golog_theory.specs.Names.{same}
use Rattle.golog_theory.specs.Heads.{head_word, arguments}
use Rattle.golog_theory.specs.Sorts.{sort_item}
use Rattle.golog_theory.specs.Fluents.{fluent_item, start_item}
use Rattle.golog_theory.specs.Actions.{device_item, action_item, exo_item}
use Rattle.golog_theory.specs.Effects.{poss_item, causes_item, senses_item}
use Rattle.golog_theory.specs.Keywords.{item_keyword}
use Rattle.golog_theory.specs.Items.{built_in, with_fluent, fluent_read, read_as, read_by, item_read, items_read, theory_of}
use Rattle.golog_semantics.specs.BuiltIn.{same_text}
use Rattle.golog_draft.specs.DraftPlaces.{sort_place, cond_places, value_places, start_places, poss_places, cause_places, sense_places}
use Rattle.golog_draft.specs.DraftOrder.{Ascend, IsAscending, AreAscending}
use Rattle.golog_draft.specs.Drafts.{draft_bool, draft_running, draft_own_action, draft_sets_running, draft_sort_keeps, draft_fluent_keeps, draft_action_keeps, draft_poss_keeps, draft_sense_keeps, draft_start_keeps, theory_names, same_start}
use Rattle.golog_theory.proofs.Yields.{Yields, gives-yields, refused-yields, row-yields, both-yields, then-yields}
use Rattle.golog_theory.proofs.Inside.{end_of, Between, stands, arguments-between}
use Rattle.golog_theory.proofs.Amid.{all-append, all-weaker}
use Rattle.golog_theory.proofs.Ascend.{is_ascending, are_push, RiseTo, rise-to, rise_push}
use Rattle.golog_theory.proofs.CauseVars.{SortsUpTo}
use Rattle.golog_theory.proofs.Grown.{Grew, grew-sort, grew-device, grew-fluent, grew-action, grew-rest, fluent-still, action-still, poss-still, sense-still, start-still}
use Rattle.golog_theory.proofs.Kept.{all_push, all_still}
use Rattle.golog_theory.proofs.KeptSorts.{SortFits, sort_item-yields}
use Rattle.golog_theory.proofs.KeptItems.{FluentFits, ActionFits, DeviceFits, fluent_item-yields, device_item-yields, action_item-yields, exo_item-yields}
use Rattle.golog_theory.proofs.KeptNames.{Named, named-sort, named-device, named-fluent, named-action, built_in-named}
use Rattle.golog_theory.proofs.KeptOnce.{once-push, distinct-push, fresh-each}
use Rattle.golog_theory.proofs.KeptTerms.{keeps-Arg}
use Rattle.golog_theory.proofs.KeptConds.{keeps-Truth}
use Rattle.golog_theory.proofs.KeptEffects.{SenseFits, senses_item-yields}
use Rattle.golog_theory.proofs.KeptRest.{PossFits, StartFits, poss_item-yields, start_item-yields}
use Rattle.golog_theory.proofs.KeptCauses.{CauseFits, all_four, causes_item-fits, cause-still}
use Rattle.golog_theory.proofs.PlacesOfTerms.{places-Arg}
use Rattle.golog_theory.proofs.PlacesOfConds.{places-Truth}
use Rattle.golog_theory.proofs.PlacesOfItems.{fluent_item-ascend, start_item-ascend, poss_item-ascend, causes_item-ascend, senses_item-ascend}

-- what is shown of each list of a theory that was read up to a place
pub record SortsHold (to : ℕ) (sorts : List DraftSort) : Type 0 where
  pub begins : take 1 sorts ≡ draft_bool ∷ []
  pub few : length sorts ≤ 64
  pub keep : list_all draft_sort_keeps sorts ≡ true
  pub placed : SortsUpTo to sorts

pub record FluentsHold (to : ℕ) (theory : DraftTheory) (fluents : List DraftFluent) : Type 0 where
  pub begins : take 1 fluents ≡ draft_running ∷ []
  pub keep : list_all (draft_fluent_keeps theory) fluents ≡ true
  pub rises : RiseTo 0 (map (λ (item : DraftFluent). item.at) fluents) to

pub record ActionsHold (to : ℕ) (theory : DraftTheory) (actions : List DraftAction) : Type 0 where
  pub begins : take 2 actions ≡ draft_own_action (codes "start_interrupts") ∷ draft_own_action (codes "stop_interrupts") ∷ []
  pub keep : list_all (draft_action_keeps theory) actions ≡ true
  pub rises : RiseTo 0 (map (λ (item : DraftAction). item.at) actions) to

pub record PossHold (theory : DraftTheory) (poss : List DraftPoss) : Type 0 where
  pub keep : list_all (draft_poss_keeps theory) poss ≡ true
  pub vars : All (λ (item : DraftPoss). IsDistinct same_text item.vars) poss
  pub once : IsDistinct nat_eq (map (λ (item : DraftPoss). item.action) poss)
  pub ascend : AreAscending (map poss_places poss)

pub record CausesHold (to : ℕ) (theory : DraftTheory) (causes : List DraftCause) : Type 0 where
  pub begins : take 2 causes ≡ draft_sets_running 0 (codes "true") ∷ draft_sets_running 1 (codes "false") ∷ []
  pub few : length causes ≤ 1026
  pub fit : AllByRecursion (CauseFits to theory) causes
  pub ascend : AreAscending (map cause_places causes)

pub record SensesHold (theory : DraftTheory) (senses : List DraftSense) : Type 0 where
  pub keep : list_all (draft_sense_keeps theory) senses ≡ true
  pub vars : All (λ (item : DraftSense). IsDistinct same_text item.vars) senses
  pub ascend : AreAscending (map sense_places senses)

pub record StartsHold (theory : DraftTheory) (starts : List DraftStart) : Type 0 where
  pub begins : take 1 starts ≡ Each 0 (Some (Word (codes "false") 0)) 0 ∷ []
  pub keep : list_all (draft_start_keeps theory) starts ≡ true
  pub once : IsDistinct same_start starts
  pub ascend : AreAscending (map start_places starts)

-- the lists of a theory, and its names
pub data Part : Type 0 where
  Names : Part
  Sorts : Part
  Devices : Part
  Fluents : Part
  Actions : Part
  Poss : Part
  Causes : Part
  Senses : Part
  Starts : Part

-- what holds of a part of a theory, beside what another declares
abbrev pub Holds : Part → ℕ → DraftTheory → DraftTheory → Type 0
Holds Names to theory own = Named (theory_names own)
Holds Sorts to theory own = SortsHold to own.sorts
Holds Devices to theory own = length own.devices ≤ 16
Holds Fluents to theory own = FluentsHold to theory own.fluents
Holds Actions to theory own = ActionsHold to theory own.actions
Holds Poss to theory own = PossHold theory own.poss
Holds Causes to theory own = CausesHold to theory own.causes
Holds Senses to theory own = SensesHold theory own.senses
Holds Starts to theory own = StartsHold theory own.starts

abbrev pub Kept : ℕ → DraftTheory → Type 0
Kept to theory = (part : Part) → Holds part to theory theory

-- Where more is declared, and further on, each part keeps what it has to.
module _ (from to : ℕ) (le : from ≤ to) (theory other : DraftTheory) (grew : Grew from theory other) where
  further : (place : ℕ) → place ≤ from → place ≤ to
  further place before = omega (arith, before, le)

  still : (part : Part) → Holds part from theory theory → Holds part to other theory
  still Names h = h
  still Sorts h = record {
    begins = h.begins;
    few = h.few;
    keep = h.keep;
    placed = all-weaker (λ sort. sort_place sort ≤ from) (λ sort. sort_place sort ≤ to) theory.sorts (λ sort. further (sort_place sort)) h.placed;
  }
  still Devices h = h
  still Fluents h = record {
    begins = h.begins;
    keep = all_still (draft_fluent_keeps theory) (draft_fluent_keeps other) theory.fluents (fluent-still from theory other grew) h.keep;
    rises = rise-to 0 (map (λ (item : DraftFluent). item.at) theory.fluents) from to le h.rises;
  }
  still Actions h = record {
    begins = h.begins;
    keep = all_still (draft_action_keeps theory) (draft_action_keeps other) theory.actions (action-still from theory other grew) h.keep;
    rises = rise-to 0 (map (λ (item : DraftAction). item.at) theory.actions) from to le h.rises;
  }
  still Poss h = record {
    keep = all_still (draft_poss_keeps theory) (draft_poss_keeps other) theory.poss (poss-still from theory other grew) h.keep;
    vars = h.vars;
    once = h.once;
    ascend = h.ascend;
  }
  still Causes h = record {
    begins = h.begins;
    few = h.few;
    fit = all-weaker (CauseFits from theory) (CauseFits to other) theory.causes (cause-still from to le theory other grew) h.fit;
    ascend = h.ascend;
  }
  still Senses h = record {
    keep = all_still (draft_sense_keeps theory) (draft_sense_keeps other) theory.senses (sense-still from theory other grew) h.keep;
    vars = h.vars;
    ascend = h.ascend;
  }
  still Starts h = record {
    begins = h.begins;
    keep = all_still (draft_start_keeps theory) (draft_start_keeps other) theory.starts (start-still from theory other grew) h.keep;
    once = h.once;
    ascend = h.ascend;
  }

take_one : {A : Type 0} (xs : List A) (y x : A) → take 1 xs ≡ y ∷ [] → take 1 (xs ++ x ∷ []) ≡ y ∷ []
take_one [] y x e = absurd cc
take_one (z ∷ xs) y x e = e

take_two : {A : Type 0} (xs : List A) (y z x : A) → take 2 xs ≡ y ∷ z ∷ [] → take 2 (xs ++ x ∷ []) ≡ y ∷ z ∷ []
take_two [] y z x e = absurd cc
take_two (w ∷ []) y z x e = absurd cc
take_two (w ∷ v ∷ xs) y z x e = e

room : (A : Type 0) (xs : List A) (x : A) (n : ℕ) → length xs < n → length (xs ++ x ∷ []) ≤ n
room A xs x n lt = omega (arith, length_push xs x, lt)

module _ (from at to : ℕ) (le : from ≤ at) (lt : at < to) (theory : DraftTheory) (kept : Kept from theory) where
  wider : from ≤ to
  wider = omega (arith, le, lt)

  -- a part as it stands, beside what the next theory declares
  beside : (next : DraftTheory) → Grew from theory next → (part : Part) → Holds part to next theory
  beside next grew part = still from to wider theory next grew part (kept part)

  with-sort : (item : DraftSort) → SortFits theory at item → Kept to (record theory { sorts = theory.sorts ++ item ∷ [] })
  with-sort item fits Names = named-sort theory (kept Names) item fits.new
  with-sort item fits Sorts =
      let h = beside (record theory { sorts = theory.sorts ++ item ∷ [] }) (grew-sort from theory at le item fits.placed) Sorts in record {
        begins = take_one theory.sorts _ item h.begins;
        few = room DraftSort theory.sorts item 64 fits.few;
        keep = all_push draft_sort_keeps theory.sorts item h.keep fits.keeps;
        placed = all-append (λ sort. sort_place sort ≤ to) theory.sorts (item ∷ []) h.placed (omega (arith, fits.placed, lt), tt);
      }
  with-sort item fits part = beside (record theory { sorts = theory.sorts ++ item ∷ [] }) (grew-sort from theory at le item fits.placed) part

  with-device : (item : DraftDevice) → DeviceFits theory item → Kept to (record theory { devices = theory.devices ++ item ∷ [] })
  with-device item fits Names = named-device theory (kept Names) item fits.name
  with-device item fits Devices = room DraftDevice theory.devices item 16 fits.few
  with-device item fits part = beside (record theory { devices = theory.devices ++ item ∷ [] }) (grew-device from theory item) part

  with-new_fluent : (item : FluentItem) → FluentFits theory at item.fluent → IsAscending (value_places item.value) → Kept to (with_fluent theory item at)
  with-new_fluent item fits ascends Names = named-fluent theory (kept Names) at item fits.name
  with-new_fluent item fits ascends Fluents =
      let grew = grew-fluent from theory at item in
      let h = beside (with_fluent theory item at) grew Fluents in record {
        begins = take_one theory.fluents _ item.fluent h.begins;
        keep = all_push (draft_fluent_keeps (with_fluent theory item at)) theory.fluents item.fluent h.keep (fluent-still from theory (with_fluent theory item at) grew item.fluent fits.keeps);
        rises = rise_push (λ (item : DraftFluent). item.at) 0 theory.fluents item.fluent from to (kept Fluents).rises (omega (arith, fits.placed, le)) (omega (arith, fits.placed, lt));
      }
  with-new_fluent item fits ascends Starts =
      let next = with_fluent theory item at in
      let start = Each (length theory.fluents) item.value at in
      let h = beside next (grew-fluent from theory at item) Starts in record {
        begins = take_one theory.starts _ start h.begins;
        keep = all_push (draft_start_keeps next) theory.starts start h.keep (last (length theory.fluents) (length (theory.fluents ++ item.fluent ∷ [])) (length_push theory.fluents item.fluent));
        once = distinct-push same_start theory.starts start (fresh-each theory theory.starts item.value at (kept Starts).keep) h.once;
        ascend = are_push start_places theory.starts start h.ascend ascends;
      }
    where
      last : (n m : ℕ) → m ≡ n + 1 → nat_lt n m ≡ true
      last n m e = grind arith
  with-new_fluent item fits ascends part = beside (with_fluent theory item at) (grew-fluent from theory at item) part

  with-action : (item : DraftAction) → ActionFits theory at item → Kept to (record theory { actions = theory.actions ++ item ∷ [] })
  with-action item fits Names = named-action theory (kept Names) item fits.name
  with-action item fits Actions =
      let next = record theory { actions = theory.actions ++ item ∷ [] } in
      let grew = grew-action from theory item in
      let h = beside next grew Actions in record {
        begins = take_two theory.actions _ _ item h.begins;
        keep = all_push (draft_action_keeps next) theory.actions item h.keep (action-still from theory next grew item fits.keeps);
        rises = rise_push (λ (item : DraftAction). item.at) 0 theory.actions item from to (kept Actions).rises (omega (arith, fits.placed, le)) (omega (arith, fits.placed, lt));
      }
  with-action item fits part = beside (record theory { actions = theory.actions ++ item ∷ [] }) (grew-action from theory item) part

  with-start : (item : DraftStart) → StartFits theory item → IsAscending (start_places item) → Kept to (record theory { starts = theory.starts ++ item ∷ [] })
  with-start item fits ascends Starts =
      let next = record theory { starts = theory.starts ++ item ∷ [] } in
      let grew = grew-rest from theory theory.poss theory.causes theory.senses (theory.starts ++ item ∷ []) in
      let h = beside next grew Starts in record {
        begins = take_one theory.starts _ item h.begins;
        keep = all_push (draft_start_keeps next) theory.starts item h.keep (start-still from theory next grew item fits.keeps);
        once = distinct-push same_start theory.starts item fits.first h.once;
        ascend = are_push start_places theory.starts item h.ascend ascends;
      }
  with-start item fits ascends part =
      beside (record theory { starts = theory.starts ++ item ∷ [] }) (grew-rest from theory theory.poss theory.causes theory.senses (theory.starts ++ item ∷ [])) part

  with-poss : (item : DraftPoss) → PossFits theory item → IsAscending (poss_places item) → Kept to (record theory { poss = theory.poss ++ item ∷ [] })
  with-poss item fits ascends Poss =
      let next = record theory { poss = theory.poss ++ item ∷ [] } in
      let grew = grew-rest from theory (theory.poss ++ item ∷ []) theory.causes theory.senses theory.starts in
      let h = beside next grew Poss in record {
        keep = all_push (draft_poss_keeps next) theory.poss item h.keep (poss-still from theory next grew item fits.keeps);
        vars = All-push (λ (item : DraftPoss). IsDistinct same_text item.vars) theory.poss item h.vars fits.once;
        once = once-push theory.poss item fits.first h.once;
        ascend = are_push poss_places theory.poss item h.ascend ascends;
      }
  with-poss item fits ascends part =
      beside (record theory { poss = theory.poss ++ item ∷ [] }) (grew-rest from theory (theory.poss ++ item ∷ []) theory.causes theory.senses theory.starts) part

  with-cause : (item : DraftCause) → CauseFits to theory item × (length theory.causes < 1026) → IsAscending (cause_places item) → Kept to (record theory { causes = theory.causes ++ item ∷ [] })
  with-cause item fits ascends Causes =
      let next = record theory { causes = theory.causes ++ item ∷ [] } in
      let causes = theory.causes ++ item ∷ [] in
      let h = beside next (grew-rest from theory theory.poss causes theory.senses theory.starts) Causes in record {
        begins = take_two theory.causes _ _ item h.begins;
        few = room DraftCause theory.causes item 1026 fits.1;
        fit = all-append (CauseFits to next) theory.causes (item ∷ []) h.fit
            (cause-still to to (omega arith) theory next (grew-rest to theory theory.poss causes theory.senses theory.starts) item fits.0, tt);
        ascend = are_push cause_places theory.causes item h.ascend ascends;
      }
  with-cause item fits ascends part =
      beside (record theory { causes = theory.causes ++ item ∷ [] }) (grew-rest from theory theory.poss (theory.causes ++ item ∷ []) theory.senses theory.starts) part

  with-sense : (item : DraftSense) → SenseFits theory item → IsAscending (sense_places item) → Kept to (record theory { senses = theory.senses ++ item ∷ [] })
  with-sense item fits ascends Senses =
      let next = record theory { senses = theory.senses ++ item ∷ [] } in
      let grew = grew-rest from theory theory.poss theory.causes (theory.senses ++ item ∷ []) theory.starts in
      let h = beside next grew Senses in record {
        keep = all_push (draft_sense_keeps next) theory.senses item h.keep (sense-still from theory next grew item fits.keeps);
        vars = All-push (λ (item : DraftSense). IsDistinct same_text item.vars) theory.senses item h.vars fits.once;
        ascend = are_push sense_places theory.senses item h.ascend ascends;
      }
  with-sense item fits ascends part =
      beside (record theory { senses = theory.senses ++ item ∷ [] }) (grew-rest from theory theory.poss theory.causes (theory.senses ++ item ∷ []) theory.starts) part

  unchanged : Kept to theory
  unchanged = beside theory (grew-rest from theory theory.poss theory.causes theory.senses theory.starts)

  read_as-kept : (own : ItemKeyword) (fs : List Form) → Between (at + 1) fs to → Yields (Kept to) (read_as theory at own fs)
  unfolding read_as fluent_read
  read_as-kept keyword.Sort fs b =
      then-yields _ _ (sort_item theory at fs).outcome _ (sort_item-yields theory at fs) (λ item fits. gives-yields (Kept to) _ (with-sort item fits))
  read_as-kept keyword.Device fs b =
      then-yields _ _ (device_item theory at fs).outcome _ (device_item-yields theory at fs) (λ item fits. gives-yields (Kept to) _ (with-device item fits))
  read_as-kept keyword.Fluent fs b =
      then-yields _ _ (fluent_item theory at fs).outcome _ (both-yields _ _ _ (fluent_item-yields theory at fs) (fluent_item-ascend theory at fs (at + 1) to b))
      (λ item is. gives-yields (Kept to) _ (with-new_fluent item is.0 is.1))
  read_as-kept keyword.Start fs b =
      then-yields _ _ (start_item theory at fs).outcome _ (both-yields _ _ _ (start_item-yields theory at fs) (start_item-ascend theory at fs (at + 1) to b))
      (λ item is. gives-yields (Kept to) _ (with-start item is.0 is.1))
  read_as-kept keyword.Action fs b =
      then-yields _ _ (action_item theory at fs).outcome _ (action_item-yields theory at fs) (λ item fits. gives-yields (Kept to) _ (with-action item fits))
  read_as-kept keyword.Exo fs b =
      then-yields _ _ (exo_item theory at fs).outcome _ (exo_item-yields theory at fs) (λ item fits. gives-yields (Kept to) _ (with-action item fits))
  read_as-kept keyword.Poss fs b =
      then-yields _ _ (poss_item theory at fs).outcome _ (both-yields _ _ _ (poss_item-yields theory at fs) (poss_item-ascend theory at fs (at + 1) to b))
      (λ item is. gives-yields (Kept to) _ (with-poss item is.0 is.1))
  read_as-kept keyword.Causes fs b =
      then-yields _ _ (causes_item theory at fs).outcome _
      (both-yields _ _ _ (causes_item-fits from to theory (kept Sorts).placed at fs le b) (causes_item-ascend theory at fs (at + 1) to b))
      (λ item is. gives-yields (Kept to) _ (with-cause item is.0 is.1))
  read_as-kept keyword.Senses fs b =
      then-yields _ _ (senses_item theory at fs).outcome _ (both-yields _ _ _ (senses_item-yields theory at fs) (senses_item-ascend theory at fs (at + 1) to (omega arith) b))
      (λ item is. gives-yields (Kept to) _ (with-sense item is.0 is.1))
  read_as-kept keyword.Proc fs b = gives-yields (Kept to) theory unchanged
  read_as-kept keyword.Main fs b = gives-yields (Kept to) theory unchanged

  read_by-kept : (own : Option ItemKeyword) (fs : List Form) → Between (at + 1) fs to → Yields (Kept to) (read_by theory at own fs)
  read_by-kept None fs b = refused-yields (Kept to) 20 at
  read_by-kept (Some own) fs b = read_as-kept own fs b

items_read-kept : (from : ℕ) (theory : DraftTheory) → Kept from theory → (fs : List Form) (to : ℕ) → Between from fs to → Yields (Kept (to + 1)) (items_read theory fs)
items_read-kept from theory kept [] to b = gives-yields (Kept (to + 1)) theory (unchanged from from (to + 1) (omega arith) (omega (arith, b)) theory kept)
items_read-kept from theory kept (f ∷ fs) to b =
    then-yields (Kept (end_of f)) (Kept (to + 1)) (item_read theory f).outcome (λ next. items_read next fs)
    (read_by-kept from (place_of f) (end_of f) b.0 (stands f b.1).size theory kept (item_keyword (head_word f)) (arguments f) (arguments-between f b.1))
    (λ next kept'. items_read-kept (end_of f) next kept' fs to b.2)

-- what is built in stands at place 0
cause-ascend : (action : ℕ) (value : List ℕ) → IsAscending (cause_places (draft_sets_running action value))
cause-ascend action value =
    is_ascending 0 (cause_places (draft_sets_running action value)) 1
    (subst (λ places. Ascend 0 (places ++ cond_places (Truth true 0)) 1) (sym (places-Arg (Word value 0)))
    (subst (λ places. Ascend 0 (0 ∷ places) 1) (sym (places-Truth true 0)) (omega arith, omega arith)))

built_in-kept : (to : ℕ) → Kept to built_in
unfolding built_in IsDistinct
built_in-kept to Names = built_in-named
built_in-kept to Sorts = record { begins = refl; few = omega arith; keep = refl; placed = (omega arith, tt) }
built_in-kept to Devices = omega arith
built_in-kept to Fluents = record { begins = refl; keep = refl; rises = (omega arith, omega arith) }
built_in-kept to Actions = record { begins = refl; keep = refl; rises = (omega arith, (omega arith, omega arith)) }
built_in-kept to Poss = record { keep = refl; vars = All-nil (λ (item : DraftPoss). IsDistinct same_text item.vars); once = tt; ascend = tt }
built_in-kept to Causes = record {
  begins = refl;
  few = omega arith;
  fit = (
    record { keeps = all_four _ _ _ _ refl refl (keeps-Arg built_in (Word (codes "true") 0)) (keeps-Truth built_in true 0 0); before = tt },
    (record { keeps = all_four _ _ _ _ refl refl (keeps-Arg built_in (Word (codes "false") 0)) (keeps-Truth built_in true 0 0); before = tt }, tt),
  );
  ascend = (cause-ascend 0 (codes "true"), (cause-ascend 1 (codes "false"), tt));
}
built_in-kept to Senses = record { keep = refl; vars = All-nil (λ (item : DraftSense). IsDistinct same_text item.vars); ascend = tt }
built_in-kept to Starts = record { begins = refl; keep = refl; once = (tt, tt); ascend = (is_ascending 0 (0 ∷ []) 1 (omega arith, omega arith), tt) }

-- a theory that is read
pub theory_of-kept : (f : Form) → IsInOrder f → Yields (Kept (end_of f + 1)) (theory_of f)
unfolding theory_of
theory_of-kept f order =
    row-yields (Kept (end_of f + 1)) (not (same (head_word f) (codes "agent"))) (20, place_of f) (items_read built_in (arguments f)).outcome
    (λ _. items_read-kept (place_of f + 1) built_in (built_in-kept (place_of f + 1)) (arguments f) (end_of f) (arguments-between f order))

pub ruleset laws = (theory_of-kept)
