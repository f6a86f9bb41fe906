-- The rows of a term and of a condition stand in order, within the places of its form.
use Rattle.std.proofs.Common.{ℕ, ◌+◌, ◌*◌, ◌<◌, ◌≤◌, true, false, ℤ, List, [], ◌∷◌, map, Option, Some, None, refl, sym, subst, arith}
use Rattle.std.specs.Prelude.{if◌then◌else◌, codes, neg_ℤ}
use Rattle.golog_form.specs.declared.form.Form.{Form}
use Rattle.golog_form.specs.Shape.{place_of}
use Rattle.golog_form.specs.Places.{IsInOrder}
use Rattle.golog_tree.specs.declared.draft.DraftTheory.{DraftTheory}
use Rattle.golog_tree.specs.declared.draft_cond.DraftTerm.{DraftTerm}
use Rattle.golog_tree.specs.declared.draft_cond.DraftTerm.TheVariants as term
use Rattle.golog_tree.specs.declared.draft_cond.DraftCond.{DraftCond}
use Rattle.golog_tree.specs.declared.draft_cond.DraftCond.TheVariants as cond
use Rattle.golog_theory.specs.declared.conditions.Sides.{Sides}
use Rattle.golog_theory.specs.declared.conditions.Binder.{Binder}
use Rattle.golog_theory.specs.declared.conditions.Bound.{Bound}
use Rattle.golog_theory.specs.Reading.{Reading, gives, refused, row, ◌>>=◌, found, each}
use Rattle.golog_theory.specs.Names.{same}
use Rattle.golog_base.specs.Numbers.{value}
use Rattle.golog_theory.specs.Parts.{word, parts, short_name, sort_of, arg_of}
use Rattle.golog_theory.specs.Heads.{fluent_called}
use Rattle.golog_theory.specs.Recursion.{Part}
use Rattle.golog_theory.specs.Terms.{step_of, plus_of, minus_of, fluent_term, atom_term, term_list, term_by, term_of, term_part}
use Rattle.golog_theory.specs.Keywords.{cond_keyword}
use Rattle.golog_theory.specs.declared.keyword.CondKeyword.{CondKeyword}
use Rattle.golog_theory.specs.declared.keyword.CondKeyword.TheVariants as keyword
use Rattle.golog_theory.specs.Conditions.{InScope, truth_of, fluent_cond, sides_of, equal_of, less_of, at_most_of, not_of, conds_of, and_of, or_of, binder_by, binder_of, bound_of, some_of, all_of, keyword_cond, cond_list, cond_by, cond_of, cond_part}
use Rattle.golog_rows.proofs.Chain.{key, Chain, chain-low, Spans, then-chain, then-spans, gives-spans, Parts, ReadsFrom, each-spans, if-chain, wider}
use Rattle.golog_theory.proofs.Inside.{Each, by_parts, end_of, Between, stands, between-from}
use Rattle.golog_theory.proofs.Tables.{Covers, row-chain, found-covers, between-le, short_name-behind, sort_of-covers, arg_of-covers, fluent_called-covers}
use Rattle.golog_theory.proofs.Descent.{term_of-parts}
use Rattle.golog_theory.proofs.Conds.{cond_of-parts}

-- a form within others, wherever these begin and end
pub within : {A : Type 0} (from to : ℕ) (f : Form) (reading : Reading A) → from ≤ place_of f → end_of f ≤ to → Covers f reading → Spans from to reading
within from to f reading lo hi c =
    wider from (place_of f) (end_of f) to reading lo hi c

-- the first of some parts, and then what is read of the others
pub first-spans : {A B : Type 0} (from : ℕ) (f : Form) (fs : List Form) (to : ℕ) (reading : Reading A) (next : A → Reading B) → Between from (f ∷ fs) to
    → Covers f reading → ((x : A) → Spans (end_of f) to (next x)) → Spans from to (reading >>= next)
first-spans from f fs to reading next b c d =
    then-spans from (end_of f) to reading next (between-le (end_of f) fs to b.2)
    (chain-low (64 * from) (64 * place_of f) (64 * end_of f) reading.rows (omega (arith, b.0)) c) d

-- the last of some parts
pub last-spans : {A B : Type 0} (from : ℕ) (f : Form) (to : ℕ) (reading : Reading A) (made : A → B) → Between from (f ∷ []) to
    → Covers f reading → Spans from to (reading >>= λ x. gives (made x))
last-spans from f to reading made b c = gives-spans from to reading made (within from to f reading b.0 b.2 c)

-- parts of a form that are read within some variables, one after another
pub parts-read : {A : Type 0} (read : Form → ℕ → Reading A) (scope from : ℕ) (fs : List Form) (to : ℕ) → Between from fs to
    → Each (λ f. IsInOrder f → (n : ℕ) → Covers f (read f n)) fs
    → Parts (ReadsFrom (λ (_ : List A) (part : Part (ℕ → Reading A)). part.spelled scope)) from (map (λ (f : Form). record { form = f; spelled = read f }) fs) to
parts-read read scope from [] to b e = b
parts-read read scope from (f ∷ fs) to b e =
    let size = (stands f b.1).size in
    (place_of f, end_of f, b.0, omega (arith, size), (λ before. e.0 b.1 scope), parts-read read scope (end_of f) fs to b.2 e.1)

-- a refusal of the form itself
pub refused-covers : (A : Type 0) (from to code : ℕ) → from < to → 0 < code → code < 64 → Spans from to (refused {A = A} code from)
refused-covers A from to code size some small = (omega arith, some, small, omega arith)

step_of-covers : (f : Form) → IsInOrder f → Covers f (step_of f)
unfolding step_of
step_of-covers f order = found-covers 26 f (value (word f)) refl order

atom_term-covers : (f : Form) → IsInOrder f → Covers f (atom_term f)
unfolding atom_term
atom_term-covers f order = gives-spans (place_of f) (end_of f) (arg_of f) (λ arg. term.Arg arg) (arg_of-covers f order)

fluent_term-covers : (theory : DraftTheory) (f : Form) → IsInOrder f → Covers f (fluent_term theory f)
unfolding fluent_term
fluent_term-covers theory f order =
    gives-spans (place_of f) (end_of f) (fluent_called theory f) (λ called. term.Fluent called.item called.args (place_of f)) (fluent_called-covers theory f order)

module _ (theory : DraftTheory) where
  abbrev TermCovers : Form → Type 0
  TermCovers f = IsInOrder f → Covers f (term_of theory f)

  -- a term and a number behind it
  shift-spans : (from to : ℕ) (one step : Form) (made : DraftTerm → ℤ → DraftTerm) → Between from (one ∷ step ∷ []) to → TermCovers one
      → Spans from to (term_of theory one >>= λ term. step_of step >>= λ by. gives (made term by))
  shift-spans from to one step made b covers =
      let size = (stands step b.2.1).size in
      then-spans from (end_of one) to (term_of theory one) (λ term. step_of step >>= λ by. gives (made term by)) (omega (arith, b.2.0, size, b.2.2))
      (within from (end_of one) one (term_of theory one) b.0 (omega arith) (covers b.1))
      (λ term. gives-spans (end_of one) to (step_of step) (made term) (within (end_of one) to step (step_of step) b.2.0 b.2.2 (step_of-covers step b.2.1)))

  shifts-spans : (at : ℕ) (fs : List Form) (from to : ℕ) → at < from → Between from fs to → Each TermCovers fs
      → Spans at to (plus_of at (map (term_part theory) fs)) × Spans at to (minus_of at (map (term_part theory) fs))
  unfolding plus_of minus_of
  shifts-spans at [] from to lt b e = let none = refused-covers DraftTerm at to 20 (omega (arith, b)) (omega arith) (omega arith) in (none, none)
  shifts-spans at (one ∷ []) from to lt b e =
      let none = refused-covers DraftTerm at to 20 (omega (arith, between-le from (one ∷ []) to b)) (omega arith) (omega arith) in (none, none)
  shifts-spans at (one ∷ step ∷ []) from to lt b e =
      let b' = between-from at from (one ∷ step ∷ []) to (omega arith) b in
      (shift-spans at to one step (λ t by. term.Shift t by at) b' e.0, shift-spans at to one step (λ t by. term.Shift t (neg_ℤ by) at) b' e.0)
  shifts-spans at (one ∷ step ∷ other ∷ fs) from to lt b e =
      let none = refused-covers DraftTerm at to 20 (omega (arith, between-le from (one ∷ step ∷ other ∷ fs) to b)) (omega arith) (omega arith) in (none, none)

  term_list-covers : (f : Form) (keyword : List ℕ) (fs : List Form) (from : ℕ) → IsInOrder f → place_of f < from → Between from fs (end_of f) → Each TermCovers fs
      → Covers f (term_list theory f keyword (map (term_part theory) fs))
  unfolding term_list
  term_list-covers f keyword fs from order lt b e =
      let low = 64 * place_of f in let high = 64 * end_of f in let parts = map (term_part theory) fs in
      let minus = if same keyword (codes "-") then minus_of (place_of f) parts else fluent_term theory f in
      if-chain low high (same keyword (codes "+")) (plus_of (place_of f) parts) minus
      (shifts-spans (place_of f) fs from (end_of f) lt b e).0
      (if-chain low high (same keyword (codes "-")) (minus_of (place_of f) parts) (fluent_term theory f)
      (shifts-spans (place_of f) fs from (end_of f) lt b e).1 (fluent_term-covers theory f order))

  term_by-covers : (f : Form) (fs : List Form) → IsInOrder f → Between (place_of f + 1) fs (end_of f) → Each TermCovers fs
      → Covers f (term_by theory f (map (term_part theory) fs))
  term_by-covers f [] order b e = atom_term-covers f order
  term_by-covers f (head ∷ fs) order b e =
      term_list-covers f (word head) fs (end_of head) order (omega (arith, b.0, (stands head b.1).size)) b.2 e.1

  pub term_of-covers : (f : Form) → IsInOrder f → Covers f (term_of theory f)
  term_of-covers = by_parts TermCovers (λ f e order.
      subst (λ (reading : Reading DraftTerm). Covers f reading) (sym (term_of-parts theory f)) (term_by-covers f (parts f) order (stands f order).inner e))

  abbrev CondCovers : Form → Type 0
  CondCovers f = IsInOrder f → (scope : ℕ) → Covers f (cond_of theory f scope)

  abbrev as_parts : List Form → List (Part InScope)
  as_parts fs = map (cond_part theory) fs

  fluent_cond-covers : (f : Form) → IsInOrder f → Covers f (fluent_cond theory f)
  unfolding fluent_cond
  fluent_cond-covers f order =
      gives-spans (place_of f) (end_of f) (fluent_called theory f) (λ called. cond.Is called.item called.args (place_of f)) (fluent_called-covers theory f order)

  truth_of-covers : (f : Form) → IsInOrder f → Covers f (truth_of f)
  unfolding truth_of
  truth_of-covers f order =
      let size = (stands f order).size in
      let low = 64 * place_of f in let high = 64 * end_of f in
      let none = refused-covers DraftCond (place_of f) (end_of f) 20 size (omega arith) (omega arith) in
      if-chain low high (same (word f) (codes "true")) (gives (cond.Truth true (place_of f)))
      (if same (word f) (codes "false") then gives (cond.Truth false (place_of f)) else refused 20 (place_of f))
      (omega arith)
      (if-chain low high (same (word f) (codes "false")) (gives (cond.Truth false (place_of f))) (refused 20 (place_of f)) (omega arith) none)

  sides_of-spans : (at : ℕ) (fs : List Form) (from to : ℕ) → at < from → Between from fs to → Spans at to (sides_of theory at (as_parts fs))
  unfolding sides_of
  sides_of-spans at [] from to lt b = refused-covers Sides at to 20 (omega (arith, b)) (omega arith) (omega arith)
  sides_of-spans at (one ∷ []) from to lt b = refused-covers Sides at to 20 (omega (arith, between-le from (one ∷ []) to b)) (omega arith) (omega arith)
  sides_of-spans at (one ∷ other ∷ []) from to lt b =
      let size = (stands other b.2.1).size in
      then-spans at (end_of one) to (term_of theory one) (λ one. term_of theory other >>= λ other. gives (record { one = one; other = other }))
      (omega (arith, b.2.0, size, b.2.2))
      (within at (end_of one) one (term_of theory one) (omega (arith, b.0)) (omega arith) (term_of-covers one b.1))
      (λ one'. gives-spans (end_of one) to (term_of theory other) (λ other. record { one = one'; other = other })
      (within (end_of one) to other (term_of theory other) b.2.0 b.2.2 (term_of-covers other b.2.1)))
  sides_of-spans at (one ∷ other ∷ more ∷ fs) from to lt b =
      refused-covers Sides at to 20 (omega (arith, between-le from (one ∷ other ∷ more ∷ fs) to b)) (omega arith) (omega arith)

  not_of-spans : (scope at : ℕ) (fs : List Form) (from to : ℕ) → at < from → Between from fs to → Each CondCovers fs → Spans at to (not_of scope at (as_parts fs))
  unfolding not_of
  not_of-spans scope at [] from to lt b e = refused-covers DraftCond at to 20 (omega (arith, b)) (omega arith) (omega arith)
  not_of-spans scope at (f ∷ []) from to lt b e =
      gives-spans at to (cond_of theory f scope) (λ c. cond.Not c at) (within at to f (cond_of theory f scope) (omega (arith, b.0)) b.2 (e.0 b.1 scope))
  not_of-spans scope at (f ∷ other ∷ fs) from to lt b e =
      refused-covers DraftCond at to 20 (omega (arith, between-le from (f ∷ other ∷ fs) to b)) (omega arith) (omega arith)

  conds_of-spans : (scope at : ℕ) (fs : List Form) (from to : ℕ) → at < from → Between from fs to → Each CondCovers fs → Spans at to (conds_of scope (as_parts fs))
  unfolding conds_of
  conds_of-spans scope at fs from to lt b e =
      each-spans (λ (_ : List DraftCond) (part : Part InScope). part.spelled scope) [] (as_parts fs) at to
      (parts-read (cond_of theory) scope at fs to (between-from at from fs to (omega arith) b) e)

  binder_by-spans : (at : ℕ) (fs : List Form) (to : ℕ) → at < to → Between (at + 1) fs to → Spans at to (binder_by theory at fs)
  binder_by-spans at [] to lt b = refused-covers Binder at to 20 lt (omega arith) (omega arith)
  binder_by-spans at (var ∷ []) to lt b = refused-covers Binder at to 20 lt (omega arith) (omega arith)
  binder_by-spans at (var ∷ sort ∷ []) to lt b =
      let size = (stands var b.1).size in
      let size' = (stands sort b.2.1).size in
      row-chain (64 * at) (key (place_of var) 25) (64 * to) 20 (place_of var) _ refl (omega (arith, b.0)) (omega arith)
      (then-chain (key (place_of var) 25) (64 * end_of var) (64 * to) (short_name var) (λ var. sort_of theory sort >>= λ sort. gives (record { var = var; sort = sort }))
      (omega (arith, b.2.0, size', b.2.2)) (short_name-behind var size)
      (λ name. gives-spans (end_of var) to (sort_of theory sort) (λ sort. record { var = name; sort = sort })
      (within (end_of var) to sort (sort_of theory sort) b.2.0 b.2.2 (sort_of-covers theory sort b.2.1))))
  binder_by-spans at (var ∷ sort ∷ other ∷ fs) to lt b = refused-covers Binder at to 20 lt (omega arith) (omega arith)

  -- the rows of a binder stand within its places
  pub binder_of-covers : (f : Form) → IsInOrder f → Covers f (binder_of theory f)
  unfolding binder_of
  binder_of-covers f order = binder_by-spans (place_of f) (parts f) (end_of f) (stands f order).size (stands f order).inner

  bound_of-spans : (scope at : ℕ) (fs : List Form) (from to : ℕ) → at < from → Between from fs to → Each CondCovers fs → Spans at to (bound_of theory scope at (as_parts fs))
  unfolding bound_of
  bound_of-spans scope at [] from to lt b e = refused-covers Bound at to 20 (omega (arith, b)) (omega arith) (omega arith)
  bound_of-spans scope at (binder ∷ []) from to lt b e =
      refused-covers Bound at to 20 (omega (arith, between-le from (binder ∷ []) to b)) (omega arith) (omega arith)
  bound_of-spans scope at (binder ∷ body ∷ []) from to lt b e =
      let size = (stands body b.2.1).size in
      row-chain (64 * at) (64 * place_of binder) (64 * to) 25 at _ refl (omega arith) (omega (arith, lt, b.0))
      (then-chain (64 * place_of binder) (64 * end_of binder) (64 * to) (binder_of theory binder)
      (λ binder. cond_of theory body (scope + 1) >>= λ body. gives (record { binder = binder; body = body })) (omega (arith, b.2.0, size, b.2.2)) (binder_of-covers binder b.1)
      (λ binder'. gives-spans (end_of binder) to (cond_of theory body (scope + 1)) (λ body. record { binder = binder'; body = body })
      (within (end_of binder) to body (cond_of theory body (scope + 1)) b.2.0 b.2.2 (e.1.0 b.2.1 (scope + 1)))))
  bound_of-spans scope at (binder ∷ body ∷ other ∷ fs) from to lt b e =
      refused-covers Bound at to 20 (omega (arith, between-le from (binder ∷ body ∷ other ∷ fs) to b)) (omega arith) (omega arith)

  keyword_cond-spans : (at scope : ℕ) (keyword : CondKeyword) (fs : List Form) (from to : ℕ) → at < from → Between from fs to → Each CondCovers fs
      → Spans at to (keyword_cond theory at scope keyword (as_parts fs))
  unfolding keyword_cond equal_of less_of at_most_of and_of or_of some_of all_of
  keyword_cond-spans at scope keyword.Equal fs from to lt b e =
      gives-spans at to (sides_of theory at (as_parts fs)) (λ sides. cond.Equal sides.one sides.other at) (sides_of-spans at fs from to lt b)
  keyword_cond-spans at scope keyword.Less fs from to lt b e =
      gives-spans at to (sides_of theory at (as_parts fs)) (λ sides. cond.Less sides.one sides.other at) (sides_of-spans at fs from to lt b)
  keyword_cond-spans at scope keyword.AtMost fs from to lt b e =
      gives-spans at to (sides_of theory at (as_parts fs)) (λ sides. cond.AtMost sides.one sides.other at) (sides_of-spans at fs from to lt b)
  keyword_cond-spans at scope keyword.Not fs from to lt b e = not_of-spans scope at fs from to lt b e
  keyword_cond-spans at scope keyword.And fs from to lt b e =
      gives-spans at to (conds_of scope (as_parts fs)) (λ conds. cond.And conds at) (conds_of-spans scope at fs from to lt b e)
  keyword_cond-spans at scope keyword.Or fs from to lt b e =
      gives-spans at to (conds_of scope (as_parts fs)) (λ conds. cond.Or conds at) (conds_of-spans scope at fs from to lt b e)
  keyword_cond-spans at scope keyword.ForSome fs from to lt b e =
      gives-spans at to (bound_of theory scope at (as_parts fs)) (λ bound. cond.ForSome bound.binder.var bound.binder.sort bound.body at)
      (bound_of-spans scope at fs from to lt b e)
  keyword_cond-spans at scope keyword.ForAll fs from to lt b e =
      gives-spans at to (bound_of theory scope at (as_parts fs)) (λ bound. cond.ForAll bound.binder.var bound.binder.sort bound.body at)
      (bound_of-spans scope at fs from to lt b e)

  cond_list-covers : (f : Form) (scope : ℕ) (keyword : Option CondKeyword) (fs : List Form) (from : ℕ) → IsInOrder f → place_of f < from → Between from fs (end_of f) → Each CondCovers fs
      → Covers f (cond_list theory f scope keyword (as_parts fs))
  cond_list-covers f scope None fs from order lt b e = fluent_cond-covers f order
  cond_list-covers f scope (Some keyword) fs from order lt b e = keyword_cond-spans (place_of f) scope keyword fs from (end_of f) lt b e

  cond_by-covers : (f : Form) (fs : List Form) (scope : ℕ) → IsInOrder f → Between (place_of f + 1) fs (end_of f) → Each CondCovers fs
      → Covers f (cond_by theory f (as_parts fs) scope)
  cond_by-covers f [] scope order b e = truth_of-covers f order
  cond_by-covers f (head ∷ fs) scope order b e =
      cond_list-covers f scope (cond_keyword (word head)) fs (end_of head) order (omega (arith, b.0, (stands head b.1).size)) b.2 e.1

  pub cond_of-covers : (f : Form) → IsInOrder f → (scope : ℕ) → Covers f (cond_of theory f scope)
  cond_of-covers = by_parts CondCovers (λ f e order scope.
      subst (λ (reading : Reading DraftCond). Covers f reading) (sym (cond_of-parts theory f scope)) (cond_by-covers f (parts f) scope order (stands f order).inner e))

pub ruleset laws = (term_of-covers, cond_of-covers)
