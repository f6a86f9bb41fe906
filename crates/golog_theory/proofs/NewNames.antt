-- A name that may be declared is none of the names so far and no keyword; and a sort's constants are such names.
use Rattle.std.proofs.Common.{◌≡◌, ℕ, ◌+◌, suc, Bool, true, false, not, ◌||◌, List, [], ◌∷◌, ◌++◌, length, map, Some, None, refl, sym, ◌∙◌, arith}
use Rattle.std.proofs.lemmas.Map.Keys.{IsDistinct-push}
use Rattle.std.proofs.lemmas.Cmp.{nat_list_eq_equiv}
use Rattle.std.specs.Prelude.{cond, nat_lt, is_some, position}
use Rattle.std.specs.List.{list_any, flat_map, AllByRecursion, IsDistinct, position_or_len}
use Rattle.golog_base.specs.Names.{is_name}
use Rattle.golog_form.specs.declared.form.Form.{Form}
use Rattle.golog_form.specs.Shape.{place_of}
use Rattle.golog_tree.specs.declared.draft.DraftTheory.{DraftTheory}
use Rattle.golog_tree.specs.declared.draft.DraftSort.{DraftSort}
use Rattle.golog_tree.specs.declared.draft.DraftSort.TheVariants.{Range, Listed}
use Rattle.golog_tree.specs.declared.draft.DraftFluent.{DraftFluent}
use Rattle.golog_tree.specs.declared.draft.DraftAction.{DraftAction}
use Rattle.golog_tree.specs.declared.draft.DraftDevice.{DraftDevice}
use Rattle.golog_theory.specs.Names.{same, built_in_names, is_reserved, is_taken, is_constant, lists, sort_name, sort_no, device_no, fluent_no, action_no}
use Rattle.golog_theory.specs.Parts.{word, short_name}
use Rattle.golog_theory.specs.Sorts.{is_taken_beside, constant_of}
use Rattle.golog_semantics.specs.BuiltIn.{is_keyword, same_text}
use Rattle.golog_draft.specs.Drafts.{draft_sort_names, theory_names}
use Rattle.golog_theory.proofs.Yields.{Yields, gives-yields, row-yields}
use Rattle.golog_semantics.proofs.Tests.{neither_first, neither_second}
use Rattle.golog_theory.proofs.Kept.{IsNew, not_true}
use Rattle.golog_theory.proofs.Amid.{all-append, Absent, any-absent}

-- what is found nowhere
is_past : (c : Bool) (n : ℕ) → is_some (cond c (Some n) None) ≡ false → c ≡ false
is_past true n e = absurd cc
is_past false n e = refl

passes_not : (b : Bool) (k n : ℕ) (others : Bool) → nat_lt (cond (not b) (1 + k) 0) (suc n) ≡ false → (nat_lt k n ≡ false → others ≡ false) → (b || others) ≡ false
passes_not true k n others e h = let first : nat_lt 0 (suc n) ≡ true = grind arith in sym first ∙ e
passes_not false k n others e h = h (behind k n e)
  where
    behind : (k n : ℕ) → nat_lt (1 + k) (suc n) ≡ false → nat_lt k n ≡ false
    behind k n e = grind arith

past-any : {X : Type 0} (p : X → Bool) (xs : List X) → nat_lt (position_or_len p xs) (length xs) ≡ false → list_any p xs ≡ false
past-any p [] e = refl
past-any p (x ∷ xs) e = passes_not (p x) (position_or_len p xs) (length xs) (list_any p xs) e (past-any p xs)

not_found : {X : Type 0} (p : X → Bool) (xs : List X) → is_some (position p xs) ≡ false → list_any p xs ≡ false
not_found p xs e = past-any p xs (is_past (nat_lt (position_or_len p xs) (length xs)) (position_or_len p xs) e)

any-map : {X : Type 0} (f : X → List ℕ) (name : List ℕ) (xs : List X) → list_any (λ x. same name (f x)) xs ≡ false → Absent same_text name (map f xs)
any-map f name [] e = tt
any-map f name (x ∷ xs) e = (neither_first (same name (f x)) (list_any (λ x. same name (f x)) xs) e, any-map f name xs (neither_second (same name (f x)) (list_any (λ x. same name (f x)) xs) e))

not_named : {X : Type 0} (f : X → List ℕ) (name : List ℕ) (xs : List X) → is_some (position (λ x. same name (f x)) xs) ≡ false → Absent same_text name (map f xs)
not_named f name xs e = any-map f name xs (not_found (λ x. same name (f x)) xs e)

not_sort : (name : List ℕ) (sorts : List DraftSort) → list_any (λ sort. same name (sort_name sort)) sorts ≡ false → list_any (lists name) sorts ≡ false
    → Absent same_text name (flat_map draft_sort_names sorts)
not_sort name [] e c = tt
not_sort name (Range own low high at ∷ sorts) e c =
    let others = list_any (λ sort. same name (sort_name sort)) sorts in
    (neither_first (same name own) others e, not_sort name sorts (neither_second (same name own) others e) c)
not_sort name (Listed own constants at ∷ sorts) e c =
    let others = list_any (λ sort. same name (sort_name sort)) sorts in
    let listed = list_any (same name) constants in
    let more = list_any (lists name) sorts in (
      neither_first (same name own) others e,
      all-append (λ other. same name other ≡ false) constants (flat_map draft_sort_names sorts) (any-absent same_text name constants (neither_first listed more c))
          (not_sort name sorts (neither_second (same name own) others e) (neither_second listed more c)),
    )

-- A name that may be declared is none of the names so far.
pub new-absent : (theory : DraftTheory) (name : List ℕ) → is_taken theory name ≡ false → Absent same_text name (theory_names theory)
unfolding is_taken
new-absent theory name e =
    let reserved = is_reserved name in
    let sort = is_some (sort_no theory name) in
    let constant = is_constant theory name in
    let device = is_some (device_no theory name) in
    let fluent = is_some (fluent_no theory name) in
    let action = is_some (action_no theory name) in
    let to_fluent = neither_first (reserved || sort || constant || device || fluent) action e in
    let to_device = neither_first (reserved || sort || constant || device) fluent to_fluent in
    let to_constant = neither_first (reserved || sort || constant) device to_device in
    let to_sort = neither_first (reserved || sort) constant to_constant in
    let P = λ (other : List ℕ). same_text name other ≡ false in
    let sorts = flat_map draft_sort_names theory.sorts in
    let devices = map (λ (item : DraftDevice). item.name) theory.devices in
    let fluents = map (λ (item : DraftFluent). item.name) theory.fluents in
    let actions = map (λ (item : DraftAction). item.name) theory.actions in
    all-append P (sorts ++ devices ++ fluents) actions
    (all-append P (sorts ++ devices) fluents
    (all-append P sorts devices
    (not_sort name theory.sorts (not_found (λ sort. same name (sort_name sort)) theory.sorts (neither_second reserved sort to_sort)) (neither_second (reserved || sort) constant to_constant))
    (not_named (λ (item : DraftDevice). item.name) name theory.devices (neither_second (reserved || sort || constant) device to_device)))
    (not_named (λ (item : DraftFluent). item.name) name theory.fluents (neither_second (reserved || sort || constant || device) fluent to_fluent)))
    (not_named (λ (item : DraftAction). item.name) name theory.actions (neither_second (reserved || sort || constant || device || fluent) action e))

-- It is no keyword: these are among the reserved words.
pub new-free : (theory : DraftTheory) (name : List ℕ) → is_taken theory name ≡ false → is_keyword name ≡ false
unfolding is_taken is_reserved
new-free theory name e =
    neither_first (is_keyword name) (list_any (same name) built_in_names)
    (neither_first _ (is_some (sort_no theory name)) (neither_first _ (is_constant theory name) (neither_first _ (is_some (device_no theory name))
    (neither_first _ (is_some (fluent_no theory name)) (neither_first _ (is_some (action_no theory name)) e)))))

-- the names that an item declares: each may be declared, and they differ
pub record AreNew (theory : DraftTheory) (names : List (List ℕ)) : Type 0 where
  pub each_is : AllByRecursion (IsNew theory) names
  pub differ : IsDistinct same_text names

pub one-new : (theory : DraftTheory) (name : List ℕ) → IsNew theory name → AreNew theory (name ∷ [])
unfolding IsDistinct
one-new theory name new = record { each_is = (new, tt); differ = (tt, tt) }

module _ (theory : DraftTheory) where
  -- the sort's own name and the constants before
  pub record AreBefore (own : List ℕ) (before : List (List ℕ)) : Type 0 where
    pub each_is : AllByRecursion (IsNew theory) before
    pub differ : IsDistinct same_text (own ∷ before)

  pub constant_of-new : (own : List ℕ) (before : List (List ℕ)) (f : Form) → AreBefore own before → Yields (λ name. AreBefore own (before ++ name ∷ [])) (constant_of theory own before f)
  unfolding constant_of short_name is_taken_beside
  constant_of-new own before f held =
      row-yields _ (not (is_name (word f))) (20, place_of f) _ (λ named.
      row-yields _ (is_taken theory (word f) || same (word f) own || list_any (same (word f)) before) (21, place_of f) _ (λ free.
      row-yields _ (nat_lt 31 (length (word f))) (25, place_of f) _ (λ short.
      let taken = is_taken theory (word f) in
      let is_own = same (word f) own in
      let is_before = list_any (same (word f)) before in
      let not_beside : (is_own || is_before) ≡ false = rw (neither_second taken is_own (neither_first (taken || is_own) is_before free), neither_second (taken || is_own) is_before free) refl in
      let new : IsNew theory (word f) = record {
        word = record { named = not_true (is_name (word f)) named; short = grind arith };
        free = neither_first taken is_own (neither_first (taken || is_own) is_before free);
      } in
      gives-yields (λ name. AreBefore own (before ++ name ∷ [])) (word f) (record {
        each_is = all-append (IsNew theory) before (word f ∷ []) held.each_is (new, tt);
        differ = IsDistinct-push nat_list_eq_equiv (own ∷ before) (word f) held.differ not_beside;
      }))))

pub ruleset laws = (new-absent, new-free)
