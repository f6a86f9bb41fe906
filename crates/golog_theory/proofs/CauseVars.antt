-- The variables of an effect: those that the reader counts are those of the whole theory.
use Rattle.std.proofs.Common.{◌≡◌, ℕ, ◌<◌, ◌≤◌, Bool, true, false, not, ◌||◌, List, [], ◌∷◌, ◌++◌, length, refl, sym, ap, ◌∙◌, arith}
use Rattle.std.specs.Prelude.{if◌then◌else◌, nat_le}
use Rattle.std.specs.List.{list_any, AllByRecursion}
use Rattle.golog_tree.specs.declared.draft.DraftTheory.{DraftTheory}
use Rattle.golog_tree.specs.declared.draft.DraftSort.{DraftSort}
use Rattle.golog_tree.specs.declared.draft.DraftSort.TheVariants.{Range, Listed}
use Rattle.golog_tree.specs.declared.draft_cond.DraftArg.{DraftArg}
use Rattle.golog_tree.specs.declared.draft_cond.DraftArg.TheVariants.{Word, Number}
use Rattle.golog_tree.specs.declared.draft_cond.DraftCond.{DraftCond}
use Rattle.golog_theory.specs.declared.effects.Effect.{Effect}
pub use Rattle.golog_draft.specs.DraftPlaces.{sort_place}
use Rattle.golog_theory.specs.Names.{lists, is_constant}
use Rattle.golog_theory.specs.Effects.{is_new_variable, variable_after, variables_after, variable_count, cause_of}
use Rattle.golog_semantics.specs.BuiltIn.{same_text}
use Rattle.golog_draft.specs.Drafts.{lists_before, is_constant_at, var_after, vars_after, cause_vars}
use Rattle.golog_theory.proofs.Amid.{all-weaker}

abbrev pub arg_place : DraftArg → ℕ
arg_place (Word word at) = at
arg_place (Number number at) = at

-- these arguments stand from a place on, and before another
abbrev pub AreFrom : ℕ → List DraftArg → Type 0
AreFrom from args = AllByRecursion (λ arg. from ≤ arg_place arg) args

abbrev pub AreBefore : ℕ → List DraftArg → Type 0
AreBefore to args = AllByRecursion (λ arg. arg_place arg < to) args

-- these sorts stand at most at a place
abbrev pub SortsUpTo : ℕ → List DraftSort → Type 0
SortsUpTo to sorts = AllByRecursion (λ sort. sort_place sort ≤ to) sorts

module _ (word : List ℕ) (at : ℕ) where
  lists-early : (sort : DraftSort) → sort_place sort ≤ at → lists_before word at sort ≡ lists word sort
  lists-early (Range name low high place) le = refl
  lists-early (Listed name constants place) le = let is : nat_le place at ≡ true = grind arith in rw is refl

  lists-late : (sort : DraftSort) → at < sort_place sort → lists_before word at sort ≡ false
  lists-late (Range name low high place) lt = refl
  lists-late (Listed name constants place) lt = let is : nat_le place at ≡ false = grind arith in rw is refl

  -- A word behind all sorts is a constant where one of them lists it.
  any-early : (sorts : List DraftSort) → SortsUpTo at sorts → list_any (lists_before word at) sorts ≡ list_any (lists word) sorts
  any-early [] all = refl
  any-early (sort ∷ sorts) all = rw (lists-early sort all.0, any-early sorts all.1) refl

  -- A sort behind the word does not make it a constant.
  pub any-late : (sorts : List DraftSort) (sort : DraftSort) → at < sort_place sort
      → list_any (lists_before word at) (sorts ++ sort ∷ []) ≡ list_any (lists_before word at) sorts
  any-late [] sort lt = rw (lists-late sort lt) refl
  any-late (first ∷ sorts) sort lt = ap (λ b. lists_before word at first || b) (any-late sorts sort lt)

-- Variables behind all sorts are those that the reader finds.
module _ (theory : DraftTheory) (from : ℕ) (early : SortsUpTo from theory.sorts) where
  flip : (b : Bool) (kept more : List (List ℕ)) → (if b then kept else more) ≡ (if not b then more else kept)
  flip true kept more = refl
  flip false kept more = refl

  later : (n m k : ℕ) → n ≤ m → m ≤ k → n ≤ k
  later n m k a b = omega (arith, a, b)

  var-read : (vars : List (List ℕ)) (arg : DraftArg) → from ≤ arg_place arg → var_after theory vars arg ≡ variable_after theory vars arg
  unfolding is_new_variable
  var-read vars (Word word at) le =
      let known = list_any (same_text word) vars in
      let more = vars ++ word ∷ [] in
      let up_to : SortsUpTo at theory.sorts =
      all-weaker (λ sort. sort_place sort ≤ from) (λ sort. sort_place sort ≤ at) theory.sorts (λ sort a. later (sort_place sort) from at a le) early in
      ap (λ b. if b || known then vars else more) (any-early word at theory.sorts up_to) ∙ flip (is_constant theory word || known) vars more
  var-read vars (Number number at) le = refl

  vars-read : (vars : List (List ℕ)) (args : List DraftArg) → AreFrom from args → vars_after theory vars args ≡ variables_after theory vars args
  vars-read vars [] all = refl
  vars-read vars (arg ∷ args) all = ap (λ vars. vars_after theory vars args) (var-read vars arg all.0) ∙ vars-read (variable_after theory vars arg) args all.1

  vars-both : (vars : List (List ℕ)) (args others : List DraftArg) → vars_after theory vars (args ++ others) ≡ vars_after theory (vars_after theory vars args) others
  vars-both vars [] others = refl
  vars-both vars (arg ∷ args) others = vars-both (var_after theory vars arg) args others

  pub count-read : (at : ℕ) (effect : Effect) (cond : DraftCond) → AreFrom from effect.action.args → AreFrom from effect.fluent.args
      → variable_count theory effect ≡ length (cause_vars theory (cause_of at effect cond))
  unfolding variable_count
  count-read at effect cond of_action of_fluent =
      let args = effect.action.args in
      let others = effect.fluent.args in
      ap (λ vars. length vars)
      (sym (vars-both [] args others
      ∙ ap (λ vars. vars_after theory vars others) (vars-read [] args of_action)
      ∙ vars-read (variables_after theory [] args) others of_fluent))

-- Words that are the same constants before and behind an item are the same variables.
module _ (theory other : DraftTheory) (to : ℕ) (same : (word : List ℕ) (at : ℕ) → at < to → is_constant_at theory word at ≡ is_constant_at other word at) where
  var-still : (vars : List (List ℕ)) (arg : DraftArg) → arg_place arg < to → var_after theory vars arg ≡ var_after other vars arg
  var-still vars (Word word at) lt = ap (λ b. if b || list_any (same_text word) vars then vars else vars ++ word ∷ []) (same word at lt)
  var-still vars (Number number at) lt = refl

  pub vars-still : (vars : List (List ℕ)) (args : List DraftArg) → AreBefore to args → vars_after theory vars args ≡ vars_after other vars args
  vars-still vars [] all = refl
  vars-still vars (arg ∷ args) all = ap (λ vars. vars_after theory vars args) (var-still vars arg all.0) ∙ vars-still (var_after other vars arg) args all.1

pub ruleset laws = (any-late, count-read, vars-still)
