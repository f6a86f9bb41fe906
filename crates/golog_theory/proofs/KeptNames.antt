-- The names that a theory declares are words, no keywords, and stand once.
use Rattle.std.proofs.Common.{◌≡◌, ℕ, true, false, not, List, [], ◌∷◌, ◌++◌, map, refl, sym, ap, subst, ◌∙◌, arith}
use Rattle.std.proofs.lemmas.List.{append_assoc, append-nil, map-append, flat_map_more}
use Rattle.std.proofs.lemmas.List.Elements.{All-from_recursion}
use Rattle.std.proofs.lemmas.Cmp.{nat_list_eq_equiv}
use Rattle.std.specs.Prelude.{codes, length, nat_le}
use Rattle.std.specs.List.{list_all, flat_map, AllByRecursion, IsDistinct}
use Rattle.golog_base.specs.Names.{is_name, IsWord}
use Rattle.golog_form.specs.declared.form.Form.{Form}
use Rattle.golog_tree.specs.declared.draft.DraftTheory.{DraftTheory}
use Rattle.golog_tree.specs.declared.draft.DraftSort.{DraftSort}
use Rattle.golog_tree.specs.declared.draft.DraftFluent.{DraftFluent}
use Rattle.golog_tree.specs.declared.draft.DraftAction.{DraftAction}
use Rattle.golog_tree.specs.declared.draft.DraftDevice.{DraftDevice}
use Rattle.golog_theory.specs.declared.fluents.FluentItem.{FluentItem}
use Rattle.golog_theory.specs.declared.keyword.ItemKeyword.{ItemKeyword}
use Rattle.golog_theory.specs.Items.{built_in, with_fluent}
use Rattle.golog_semantics.specs.BuiltIn.{is_keyword, same_text}
use Rattle.golog_draft.specs.Drafts.{AreNames, draft_sort_names, theory_names}
use Rattle.golog_theory.proofs.Yields.{Yields}
use Rattle.golog_theory.proofs.Kept.{IsNew}
use Rattle.golog_theory.proofs.Amid.{all-amid, all-weaker, Absent, distinct-amid}
use Rattle.golog_theory.proofs.NewNames.{new-absent, new-free, AreNew, one-new}

-- a word that is no keyword
pub record MayName (name : List ℕ) : Type 0 where
  pub word : IsWord name
  pub free : is_keyword name ≡ false

-- each is one, and they differ
pub record Named (names : List (List ℕ)) : Type 0 where
  pub may : AllByRecursion MayName names
  pub once : IsDistinct same_text names

all-free : (names : List (List ℕ)) → AllByRecursion MayName names → list_all (λ name. not (is_keyword name)) names ≡ true
all-free [] a = refl
all-free (name ∷ names) a = rw (a.0.free, all-free names a.1) refl

pub are-names : (names : List (List ℕ)) → Named names → AreNames names
are-names names named = record {
  words = All-from_recursion IsWord names (all-weaker MayName IsWord names (λ name may. may.word) named.may);
  free = all-free names named.may;
  once = named.once;
}

-- New names may stand anywhere among those so far.
module _ (theory : DraftTheory) (named : Named (theory_names theory)) where
  more-named : (before new behind after : List (List ℕ)) → theory_names theory ≡ before ++ behind → after ≡ before ++ (new ++ behind) → AreNew theory new → Named after
  more-named before new behind after e to are =
      let now = subst Named e named in
      subst Named (sym to) (record {
        may = all-amid MayName before new behind now.may
            (all-weaker (IsNew theory) MayName new (λ name is. record { word = is.word; free = new-free theory name is.free }) are.each_is);
        once = distinct-amid same_text nat_list_eq_equiv.symm before new behind now.once are.differ
            (all-weaker (IsNew theory) (λ name. Absent same_text name (before ++ behind)) new
            (λ name is. subst (Absent same_text name) e (new-absent theory name is.free)) are.each_is);
      })

  abbrev sorts : List (List ℕ)
  sorts = flat_map draft_sort_names theory.sorts

  abbrev devices : List (List ℕ)
  devices = map (λ (item : DraftDevice). item.name) theory.devices

  abbrev fluents : List (List ℕ)
  fluents = map (λ (item : DraftFluent). item.name) theory.fluents

  abbrev actions : List (List ℕ)
  actions = map (λ (item : DraftAction). item.name) theory.actions

  behind-sorts : (one two three four : List (List ℕ)) → one ++ two ++ three ++ four ≡ one ++ (two ++ (three ++ four))
  behind-sorts one two three four = append_assoc (one ++ two) three four ∙ append_assoc one two (three ++ four)

  -- `new` at the end of the second of three lists
  amid : (one two new three : List (List ℕ)) → one ++ (two ++ new) ++ three ≡ (one ++ two) ++ (new ++ three)
  amid one two new three = ap (λ xs. xs ++ three) (sym (append_assoc one two new)) ∙ append_assoc (one ++ two) new three

  pub named-sort : (item : DraftSort) → AreNew theory (draft_sort_names item) → Named (theory_names (record theory { sorts = theory.sorts ++ item ∷ [] }))
  named-sort item are =
      let new = draft_sort_names item in
      let others = devices ++ (fluents ++ actions) in
      more-named sorts new others _ (behind-sorts sorts devices fluents actions)
      (behind-sorts (flat_map draft_sort_names (theory.sorts ++ item ∷ [])) devices fluents actions
      ∙ ap (λ xs. xs ++ others) (sym (flat_map_more draft_sort_names [] theory.sorts item))
      ∙ append_assoc sorts new others) are

  pub named-device : (item : DraftDevice) → IsNew theory item.name → Named (theory_names (record theory { devices = theory.devices ++ item ∷ [] }))
  named-device item is =
      let new = item.name ∷ [] in
      let others = fluents ++ actions in
      more-named (sorts ++ devices) new others _ (append_assoc (sorts ++ devices) fluents actions)
      (ap (λ xs. sorts ++ xs ++ fluents ++ actions) (map-append (λ (item : DraftDevice). item.name) theory.devices (item ∷ []))
      ∙ append_assoc (sorts ++ (devices ++ new)) fluents actions
      ∙ amid sorts devices new others) (one-new theory item.name is)

  pub named-fluent : (at : ℕ) (item : FluentItem) → IsNew theory item.fluent.name → Named (theory_names (with_fluent theory item at))
  named-fluent at item is =
      let new = item.fluent.name ∷ [] in
      more-named (sorts ++ devices ++ fluents) new actions _ refl
      (ap (λ xs. sorts ++ devices ++ xs ++ actions) (map-append (λ (item : DraftFluent). item.name) theory.fluents (item.fluent ∷ []))
      ∙ amid (sorts ++ devices) fluents new actions) (one-new theory item.fluent.name is)

  pub named-action : (item : DraftAction) → IsNew theory item.name → Named (theory_names (record theory { actions = theory.actions ++ item ∷ [] }))
  named-action item is =
      let new = item.name ∷ [] in
      more-named (theory_names theory) new [] _ (sym (append-nil (theory_names theory)))
      (ap (λ xs. sorts ++ devices ++ fluents ++ xs) (map-append (λ (item : DraftAction). item.name) theory.actions (item ∷ []))
      ∙ sym (append_assoc (sorts ++ devices ++ fluents) actions new)) (one-new theory item.name is)

may-name : (name : List ℕ) → is_name name ≡ true → nat_le (length name) 31 ≡ true → is_keyword name ≡ false → MayName name
may-name name named short free = record { word = record { named = named; short = grind arith }; free = free }

pub built_in-named : Named (theory_names built_in)
unfolding built_in IsDistinct
built_in-named = record {
  may = (
    may-name (codes "bool") refl refl refl,
    (
      may-name (codes "false") refl refl refl,
      (
        may-name (codes "true") refl refl refl,
        (
          may-name (codes "interrupts_running") refl refl refl,
          (may-name (codes "start_interrupts") refl refl refl, (may-name (codes "stop_interrupts") refl refl refl, tt)),
        ),
      ),
    ),
  );
  once = (
    (refl, (refl, (refl, (refl, (refl, tt))))),
    ((refl, (refl, (refl, (refl, tt)))), ((refl, (refl, (refl, tt))), ((refl, (refl, tt)), ((refl, tt), (tt, tt))))),
  );
}

pub ruleset laws = (are-names, named-sort, named-device, named-fluent, named-action)
