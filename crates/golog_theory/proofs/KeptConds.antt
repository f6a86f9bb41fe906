-- What conditions keep: fluents and sorts are declared, and no more variables are in scope than may be.
use Rattle.std.proofs.Common.{◌≡◌, ℕ, ◌+◌, ◌<◌, ◌≤◌, zero, suc, Bool, true, false, not, ◌&&◌, ◌||◌, ◌==◌, IsTrue, List, [], ◌∷◌, ◌++◌, length, map, Option, Some, None, Result, Ok, Err, refl, sym, ap, subst, ◌∙◌, arith}
use Rattle.std.proofs.lemmas.List.Folds.{list_all-map}
use Rattle.std.specs.Prelude.{if◌then◌else◌, codes, nat_le, nat_lt}
use Rattle.std.specs.List.{list_all}
use Rattle.golog_base.specs.Names.{is_name}
use Rattle.golog_form.specs.declared.form.Form.{Form}
use Rattle.golog_form.specs.Shape.{place_of}
use Rattle.golog_tree.specs.declared.draft.DraftTheory.{DraftTheory}
use Rattle.golog_tree.specs.declared.draft_cond.DraftArg.{DraftArg}
use Rattle.golog_tree.specs.declared.draft_cond.DraftTerm.{DraftTerm}
use Rattle.golog_tree.specs.declared.draft_cond.DraftCond.{DraftCond}
use Rattle.golog_tree.specs.declared.draft_cond.DraftCond.TheVariants as cond
use Rattle.golog_tree.specs.declared.draft_cond.DraftCond.TheOpen.{DraftCond-F, Truth, Is, Equal, Less, AtMost, Not, And, Or, ForSome, ForAll}
use Rattle.golog_tree.specs.declared.draft_cond.DraftCond.TheFolds.{fold-roll-DraftCond}
use Rattle.golog_theory.specs.declared.conditions.Sides.{Sides}
use Rattle.golog_theory.specs.declared.conditions.Binder.{Binder}
use Rattle.golog_theory.specs.declared.conditions.Bound.{Bound}
use Rattle.golog_theory.specs.Reading.{Row, Reading, gives, refused, row, ◌>>=◌, found, each}
use Rattle.golog_theory.specs.Names.{same}
use Rattle.golog_theory.specs.Parts.{word, parts, short_name, sort_of}
use Rattle.golog_theory.specs.Heads.{fluent_called}
use Rattle.golog_theory.specs.Recursion.{Part}
use Rattle.golog_theory.specs.Terms.{term_of}
use Rattle.golog_theory.specs.Keywords.{cond_keyword}
use Rattle.golog_theory.specs.declared.keyword.CondKeyword.{CondKeyword}
use Rattle.golog_theory.specs.declared.keyword.CondKeyword.TheVariants as keyword
use Rattle.golog_theory.specs.Conditions.{InScope, truth_of, fluent_cond, sides_of, equal_of, less_of, at_most_of, not_of, conds_of, and_of, or_of, binder_by, binder_of, bound_of, some_of, all_of, keyword_cond, cond_list, cond_by, cond_of, cond_part}
use Rattle.golog_draft.specs.Drafts.{signature, fluent_keeps, term_keeps, binder_keeps, cond_keeps_step, cond_keeps, is_draft_sort}
use Rattle.golog_theory.proofs.Inside.{Each, by_parts}
use Rattle.golog_theory.proofs.Conds.{cond_of-parts}
use Rattle.golog_theory.proofs.Yields.{Yields, On, gives-yields, refused-yields, row-yields, found-yields, if-yields, then-yields, each-yields}
use Rattle.golog_theory.proofs.Kept.{sort_of-yields, all_push}
use Rattle.golog_theory.proofs.KeptTerms.{fluent_called-yields, TermKeeps, term_of-yields}

-- there is room for one more variable
pub room : (scope : ℕ) → nat_le 32 scope ≡ false → nat_lt scope 32 ≡ true
room scope e = grind arith

module _ (theory : DraftTheory) where
  abbrev pub keeps : DraftCond → ℕ → Bool
  keeps = cond_keeps (signature theory)

  abbrev step : DraftCond-F (ℕ → Bool) → ℕ → Bool
  step = cond_keeps_step (signature theory)

  abbrev at_scope : ℕ → (ℕ → Bool) → Bool
  at_scope scope holds = holds scope

  pub keeps-Truth : (b : Bool) (at scope : ℕ) → keeps (cond.Truth b at) scope ≡ true
  keeps-Truth b at scope = ap (λ c. keeps c scope) (sym (cond.rolls-Truth b at)) ∙ ap (at_scope scope) (fold-roll-DraftCond (ℕ → Bool) step (Truth b at))

  pub keeps-Is : (item : ℕ) (args : List DraftArg) (at scope : ℕ) → keeps (cond.Is item args at) scope ≡ fluent_keeps (signature theory) item args
  keeps-Is item args at scope = ap (λ c. keeps c scope) (sym (cond.rolls-Is item args at)) ∙ ap (at_scope scope) (fold-roll-DraftCond (ℕ → Bool) step (Is item args at))

  pub keeps-Equal : (one other : DraftTerm) (at scope : ℕ) → keeps (cond.Equal one other at) scope ≡ (term_keeps (signature theory) one && term_keeps (signature theory) other)
  keeps-Equal one other at scope = ap (λ c. keeps c scope) (sym (cond.rolls-Equal one other at)) ∙ ap (at_scope scope) (fold-roll-DraftCond (ℕ → Bool) step (Equal one other at))

  pub keeps-Less : (one other : DraftTerm) (at scope : ℕ) → keeps (cond.Less one other at) scope ≡ (term_keeps (signature theory) one && term_keeps (signature theory) other)
  keeps-Less one other at scope = ap (λ c. keeps c scope) (sym (cond.rolls-Less one other at)) ∙ ap (at_scope scope) (fold-roll-DraftCond (ℕ → Bool) step (Less one other at))

  pub keeps-AtMost : (one other : DraftTerm) (at scope : ℕ) → keeps (cond.AtMost one other at) scope ≡ (term_keeps (signature theory) one && term_keeps (signature theory) other)
  keeps-AtMost one other at scope = ap (λ c. keeps c scope) (sym (cond.rolls-AtMost one other at)) ∙ ap (at_scope scope) (fold-roll-DraftCond (ℕ → Bool) step (AtMost one other at))

  pub keeps-Not : (c : DraftCond) (at scope : ℕ) → keeps (cond.Not c at) scope ≡ keeps c scope
  keeps-Not c at scope = ap (λ c. keeps c scope) (sym (cond.rolls-Not c at)) ∙ ap (at_scope scope) (fold-roll-DraftCond (ℕ → Bool) step (Not c at))

  pub keeps-And : (cs : List DraftCond) (at scope : ℕ) → keeps (cond.And cs at) scope ≡ list_all (λ c. keeps c scope) cs
  keeps-And cs at scope =
      ap (λ c. keeps c scope) (sym (cond.rolls-And cs at)) ∙ ap (at_scope scope) (fold-roll-DraftCond (ℕ → Bool) step (And cs at))
      ∙ list_all-map (at_scope scope) keeps cs

  pub keeps-Or : (cs : List DraftCond) (at scope : ℕ) → keeps (cond.Or cs at) scope ≡ list_all (λ c. keeps c scope) cs
  keeps-Or cs at scope =
      ap (λ c. keeps c scope) (sym (cond.rolls-Or cs at)) ∙ ap (at_scope scope) (fold-roll-DraftCond (ℕ → Bool) step (Or cs at))
      ∙ list_all-map (at_scope scope) keeps cs

  pub keeps-ForSome : (var : List ℕ) (sort : ℕ) (c : DraftCond) (at scope : ℕ) → keeps (cond.ForSome var sort c at) scope ≡ (binder_keeps (signature theory) scope sort && keeps c (scope + 1))
  keeps-ForSome var sort c at scope = ap (λ c. keeps c scope) (sym (cond.rolls-ForSome var sort c at)) ∙ ap (at_scope scope) (fold-roll-DraftCond (ℕ → Bool) step (ForSome var sort c at))

  pub keeps-ForAll : (var : List ℕ) (sort : ℕ) (c : DraftCond) (at scope : ℕ) → keeps (cond.ForAll var sort c at) scope ≡ (binder_keeps (signature theory) scope sort && keeps c (scope + 1))
  keeps-ForAll var sort c at scope = ap (λ c. keeps c scope) (sym (cond.rolls-ForAll var sort c at)) ∙ ap (at_scope scope) (fold-roll-DraftCond (ℕ → Bool) step (ForAll var sort c at))

  abbrev pub Keeps : ℕ → DraftCond → Type 0
  Keeps scope c = keeps c scope ≡ true

  abbrev IsKept : Form → Type 0
  IsKept f = (scope : ℕ) → Yields (Keeps scope) (cond_of theory f scope)

  abbrev as_parts : List Form → List (Part InScope)
  as_parts fs = map (cond_part theory) fs

  truth_of-yields : (f : Form) (scope : ℕ) → Yields (Keeps scope) (truth_of f)
  unfolding truth_of
  truth_of-yields f scope =
      if-yields (Keeps scope) (same (word f) (codes "true")) (gives (cond.Truth true (place_of f)))
      (if same (word f) (codes "false") then gives (cond.Truth false (place_of f)) else refused 20 (place_of f))
      (λ _. gives-yields (Keeps scope) (cond.Truth true (place_of f)) (keeps-Truth true (place_of f) scope))
      (λ _. if-yields (Keeps scope) (same (word f) (codes "false")) (gives (cond.Truth false (place_of f))) (refused 20 (place_of f))
      (λ _. gives-yields (Keeps scope) (cond.Truth false (place_of f)) (keeps-Truth false (place_of f) scope)) (λ _. refused-yields (Keeps scope) 20 (place_of f)))

  fluent_cond-yields : (f : Form) (scope : ℕ) → Yields (Keeps scope) (fluent_cond theory f)
  unfolding fluent_cond
  fluent_cond-yields f scope =
      then-yields _ _ (fluent_called theory f).outcome _ (fluent_called-yields theory f) (λ c k.
      gives-yields (Keeps scope) (cond.Is c.item c.args (place_of f)) (keeps-Is c.item c.args (place_of f) scope ∙ k))

  record SidesKeep (sides : Sides) : Type 0 where
    one : TermKeeps theory sides.one
    other : TermKeeps theory sides.other

  sides_of-yields : (at : ℕ) (fs : List Form) → Yields SidesKeep (sides_of theory at (as_parts fs))
  unfolding sides_of
  sides_of-yields at [] = refused-yields SidesKeep 20 at
  sides_of-yields at (one ∷ []) = refused-yields SidesKeep 20 at
  sides_of-yields at (one ∷ other ∷ []) =
      then-yields _ _ (term_of theory one).outcome _ (term_of-yields theory one) (λ t k.
      then-yields _ _ (term_of theory other).outcome _ (term_of-yields theory other) (λ u k'.
      gives-yields SidesKeep (record { one = t; other = u }) (record { one = k; other = k' })))
  sides_of-yields at (one ∷ other ∷ more ∷ fs) = refused-yields SidesKeep 20 at

  conds_of-yields : (scope : ℕ) (fs : List Form) → Each IsKept fs → (before : List DraftCond) → list_all (λ c. keeps c scope) before ≡ true
      → Yields (λ cs. list_all (λ c. keeps c scope) cs ≡ true) (each (λ (_ : List DraftCond) (part : Part InScope). part.spelled scope) before (as_parts fs))
  conds_of-yields scope [] e before held = gives-yields (λ cs. list_all (λ c. keeps c scope) cs ≡ true) before held
  conds_of-yields scope (f ∷ fs) e before held =
      then-yields _ _ (cond_of theory f scope).outcome _ (e.0 scope)
      (λ c k. conds_of-yields scope fs e.1 (before ++ c ∷ []) (all_push (λ c. keeps c scope) before c held k))

  not_of-yields : (scope at : ℕ) (fs : List Form) → Each IsKept fs → Yields (Keeps scope) (not_of scope at (as_parts fs))
  unfolding not_of
  not_of-yields scope at [] e = refused-yields (Keeps scope) 20 at
  not_of-yields scope at (f ∷ []) e =
      then-yields _ _ (cond_of theory f scope).outcome _ (e.0 scope) (λ c k. gives-yields (Keeps scope) (cond.Not c at) (keeps-Not c at scope ∙ k))
  not_of-yields scope at (f ∷ other ∷ fs) e = refused-yields (Keeps scope) 20 at

  binder_by-yields : (at : ℕ) (fs : List Form) → Yields (λ (b : Binder). is_draft_sort theory b.sort ≡ true) (binder_by theory at fs)
  binder_by-yields at [] = refused-yields _ 20 at
  binder_by-yields at (var ∷ []) = refused-yields _ 20 at
  binder_by-yields at (var ∷ sort ∷ []) =
      row-yields _ (not (is_name (word var))) (20, place_of var) _ (λ named.
      then-yields (λ _. Unit {0}) _ (short_name var).outcome _ (λ x e. tt) (λ name _.
      then-yields _ _ (sort_of theory sort).outcome _ (sort_of-yields theory sort) (λ n is.
      gives-yields (λ (b : Binder). is_draft_sort theory b.sort ≡ true) (record { var = name; sort = n }) is)))
  binder_by-yields at (var ∷ sort ∷ other ∷ fs) = refused-yields _ 20 at

  -- the sort of a binder is declared
  pub binder_of-yields : (f : Form) → Yields (λ (b : Binder). is_draft_sort theory b.sort ≡ true) (binder_of theory f)
  unfolding binder_of
  binder_of-yields f = binder_by-yields (place_of f) (parts f)

  record BoundKeeps (scope : ℕ) (b : Bound) : Type 0 where
    binder : binder_keeps (signature theory) scope b.binder.sort ≡ true
    body : Keeps (scope + 1) b.body

  bound_of-yields : (scope at : ℕ) (fs : List Form) → Each IsKept fs → Yields (BoundKeeps scope) (bound_of theory scope at (as_parts fs))
  unfolding bound_of
  bound_of-yields scope at [] e = refused-yields (BoundKeeps scope) 20 at
  bound_of-yields scope at (binder ∷ []) e = refused-yields (BoundKeeps scope) 20 at
  bound_of-yields scope at (binder ∷ body ∷ []) e =
      row-yields _ (nat_le 32 scope) (25, at) _ (λ few.
      then-yields _ _ (binder_of theory binder).outcome _ (binder_of-yields binder) (λ b is.
      then-yields _ _ (cond_of theory body (scope + 1)).outcome _ (e.1.0 (scope + 1)) (λ c k.
      gives-yields (BoundKeeps scope) (record { binder = b; body = c }) (record { binder = rw (room scope few, is) refl; body = k }))))
  bound_of-yields scope at (binder ∷ body ∷ other ∷ fs) e = refused-yields (BoundKeeps scope) 20 at

  keyword_cond-yields : (at scope : ℕ) (keyword : CondKeyword) (fs : List Form) → Each IsKept fs → Yields (Keeps scope) (keyword_cond theory at scope keyword (as_parts fs))
  unfolding keyword_cond equal_of less_of at_most_of and_of or_of some_of all_of conds_of
  keyword_cond-yields at scope keyword.Equal fs e =
      then-yields _ _ (sides_of theory at (as_parts fs)).outcome _ (sides_of-yields at fs)
      (λ s k. gives-yields (Keeps scope) (cond.Equal s.one s.other at) (keeps-Equal s.one s.other at scope ∙ rw (k.one, k.other) refl))
  keyword_cond-yields at scope keyword.Less fs e =
      then-yields _ _ (sides_of theory at (as_parts fs)).outcome _ (sides_of-yields at fs)
      (λ s k. gives-yields (Keeps scope) (cond.Less s.one s.other at) (keeps-Less s.one s.other at scope ∙ rw (k.one, k.other) refl))
  keyword_cond-yields at scope keyword.AtMost fs e =
      then-yields _ _ (sides_of theory at (as_parts fs)).outcome _ (sides_of-yields at fs)
      (λ s k. gives-yields (Keeps scope) (cond.AtMost s.one s.other at) (keeps-AtMost s.one s.other at scope ∙ rw (k.one, k.other) refl))
  keyword_cond-yields at scope keyword.Not fs e = not_of-yields scope at fs e
  keyword_cond-yields at scope keyword.And fs e =
      then-yields _ _ (conds_of scope (as_parts fs)).outcome _ (conds_of-yields scope fs e [] refl)
      (λ cs k. gives-yields (Keeps scope) (cond.And cs at) (keeps-And cs at scope ∙ k))
  keyword_cond-yields at scope keyword.Or fs e =
      then-yields _ _ (conds_of scope (as_parts fs)).outcome _ (conds_of-yields scope fs e [] refl)
      (λ cs k. gives-yields (Keeps scope) (cond.Or cs at) (keeps-Or cs at scope ∙ k))
  keyword_cond-yields at scope keyword.ForSome fs e =
      then-yields _ _ (bound_of theory scope at (as_parts fs)).outcome _ (bound_of-yields scope at fs e)
      (λ b k. gives-yields (Keeps scope) (cond.ForSome b.binder.var b.binder.sort b.body at) (keeps-ForSome b.binder.var b.binder.sort b.body at scope ∙ rw (k.binder, k.body) refl))
  keyword_cond-yields at scope keyword.ForAll fs e =
      then-yields _ _ (bound_of theory scope at (as_parts fs)).outcome _ (bound_of-yields scope at fs e)
      (λ b k. gives-yields (Keeps scope) (cond.ForAll b.binder.var b.binder.sort b.body at) (keeps-ForAll b.binder.var b.binder.sort b.body at scope ∙ rw (k.binder, k.body) refl))

  cond_list-yields : (f : Form) (scope : ℕ) (keyword : Option CondKeyword) (fs : List Form) → Each IsKept fs → Yields (Keeps scope) (cond_list theory f scope keyword (as_parts fs))
  cond_list-yields f scope None fs e = fluent_cond-yields f scope
  cond_list-yields f scope (Some keyword) fs e = keyword_cond-yields (place_of f) scope keyword fs e

  cond_by-yields : (f : Form) (fs : List Form) (scope : ℕ) → Each IsKept fs → Yields (Keeps scope) (cond_by theory f (as_parts fs) scope)
  cond_by-yields f [] scope e = truth_of-yields f scope
  cond_by-yields f (head ∷ fs) scope e = cond_list-yields f scope (cond_keyword (word head)) fs e.1

  pub cond_of-yields : (f : Form) (scope : ℕ) → Yields (Keeps scope) (cond_of theory f scope)
  cond_of-yields = by_parts IsKept (λ f e scope.
      subst (λ (reading : Reading DraftCond). Yields (Keeps scope) reading) (sym (cond_of-parts theory f scope)) (cond_by-yields f (parts f) scope e))

pub ruleset laws = (cond_of-yields)
