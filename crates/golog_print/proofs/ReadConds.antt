-- Conditions that were printed are read back.
use Rattle.std.proofs.Common.{◌≡◌, ℕ, ◌+◌, ◌<◌, Bool, true, false, ◌&&◌, ◌||◌, ◌==◌, List, [], ◌∷◌, ◌++◌, length, map, refl, sym, ap, subst, ◌∙◌, Option, Some, None, Ok, arith, inl, inr, ◌⊎◌}
use Rattle.std.specs.Prelude.{if◌then◌else◌, not, nat_lt, nat_le, slice_get, position, codes, decimal, unsigned_abs, option_map}
use Rattle.std.specs.List.{AllByRecursion, IsDistinct, list_all, list_any, flat_map}
use Rattle.std.specs.Option.{option_map_or}
use Rattle.std.proofs.lemmas.Bool.{eqb-true, ltb-true, lt-leb}
use Rattle.std.proofs.lemmas.List.{append_assoc, append-nil}
use Rattle.std.proofs.lemmas.Option.{slice_get-map}
use Rattle.golog_base.specs.Names.{is_name}
use Rattle.golog_form.specs.declared.form.Form.{Form}
use Rattle.golog_form.specs.Printing.{plain}
use Rattle.golog_form.specs.Shape.{place_of}
use Rattle.golog_tree.specs.declared.agent.Agent.{Agent}
use Rattle.golog_tree.specs.declared.agent.SortItem.{SortItem}
use Rattle.golog_tree.specs.declared.agent.SortItem.TheVariants as item
use Rattle.golog_tree.specs.declared.cond.Arg.{Arg}
use Rattle.golog_tree.specs.declared.cond.Cond.{Cond}
use Rattle.golog_tree.specs.declared.cond.Cond.TheVariants as cond
use Rattle.golog_tree.specs.declared.cond.Cond.TheOpen.{Term-F, Arg as ArgTerm, Fluent, Shift, Ite}
use Rattle.golog_tree.specs.declared.cond.Cond.TheOpen.{Cond-F, Truth, Is, Equal, Less, AtMost, Not, And, Or, ForSome, ForAll}
use Rattle.golog_tree.specs.declared.cond.Cond.TheViews.{roll-Cond, roll-Term}
use Rattle.golog_tree.specs.declared.cond.Cond.TheFolds.{fold-roll-Cond, fold-roll-Term, ind-Cond, map-Cond, map-Term}
use Rattle.golog_tree.specs.declared.cond.Term.{Term}
use Rattle.golog_tree.specs.declared.cond.Term.TheVariants as term
use Rattle.golog_tree.specs.declared.draft.DraftTheory.{DraftTheory}
use Rattle.golog_tree.specs.declared.draft.DraftSort.{DraftSort}
use Rattle.golog_tree.specs.declared.draft.DraftSort.TheVariants.{Range, Listed}
use Rattle.golog_tree.specs.declared.draft_cond.DraftArg.{DraftArg}
use Rattle.golog_tree.specs.declared.draft_cond.DraftTerm.{DraftTerm}
use Rattle.golog_tree.specs.declared.draft_cond.DraftCond.{DraftCond}
use Rattle.golog_tree.specs.declared.draft_cond.DraftCond.TheVariants as draft
use Rattle.golog_tree.specs.declared.draft_cond.DraftCond.TheOpen as layer
use Rattle.golog_tree.specs.declared.draft_cond.DraftCond.TheOpen.{DraftCond-F}
use Rattle.golog_tree.specs.declared.draft_cond.DraftCond.TheViews.{roll-DraftCond}
use Rattle.golog_tree.specs.declared.draft_cond.DraftCond.TheFolds.{fold-roll-DraftCond, map-DraftCond}
use Rattle.golog_semantics.specs.Text.{Text}
use Rattle.golog_semantics.specs.BuiltIn.{sort_names, same_text, is_keyword}
use Rattle.golog_rows.specs.Reading.{Reading, gives, refused, row, ◌>>=◌, found, each}
use Rattle.golog_semantics.specs.Fits as fits
use Rattle.golog_semantics.specs.Fits.{bool_sort, is_sort, is_range, binder_fits, cond_fits, term_fits}
use Rattle.golog_semantics.specs.Written.{Wording, is_amount, written_sides, written_cond_step, written_term_step, is_written_cond}
use Rattle.golog_semantics.proofs.WellNamed.{distinct-right}
use Rattle.golog_semantics.proofs.Words.{and-left, and-right}
use Rattle.golog_theory.specs.declared.conditions.Sides.{Sides as DraftSides}
use Rattle.golog_theory.specs.declared.conditions.Binder.{Binder}
use Rattle.golog_theory.specs.declared.conditions.Bound.{Bound}
use Rattle.golog_theory.specs.Codes.{UNKNOWN_FORM, UNKNOWN_SORT, COUNT}
use Rattle.golog_theory.specs.declared.heads.Called.{Called}
use Rattle.golog_theory.specs.Limits.{VARIABLES}
use Rattle.golog_theory.specs.Names.{same, sort_no}
use Rattle.golog_theory.specs.Names as read
use Rattle.golog_theory.specs.Parts.{word, parts, short_name, sort_of}
use Rattle.golog_theory.specs.Heads.{fluent_called}
use Rattle.golog_theory.specs.Recursion.{Part}
use Rattle.golog_theory.specs.Terms.{term_of}
use Rattle.golog_theory.specs.Keywords.{cond_keyword}
use Rattle.golog_theory.specs.declared.keyword.CondKeyword.{CondKeyword}
use Rattle.golog_theory.specs.declared.keyword.CondKeyword.TheVariants as keyword
use Rattle.golog_theory.specs.Conditions.{truth_of, fluent_cond, sides_of, equal_of, less_of, at_most_of, not_of, conds_of, and_of, or_of, binder_by, binder_of, bound_of, some_of, all_of, keyword_cond, cond_list, cond_by, cond_of, cond_part}
use Rattle.golog_theory.proofs.Conds.{cond_of-parts, cond_of-none}
use Rattle.golog_check.specs.declared.terms.Sides.{Sides}
use Rattle.golog_check.specs.Codes.{SORT_CLASH}
use Rattle.golog_check.specs.DeclaredItems.{Declared, sort_item}
use Rattle.golog_check.specs.Sorts as sorts
use Rattle.golog_check.specs.Sorts.{fluent_sort, fluent_sorts}
use Rattle.golog_check.specs.Scope.{Scope, variable_no, within}
use Rattle.golog_check.specs.Terms.{is_other, args_in, term_place, term_sort, term_as, common, sides_in}
use Rattle.golog_check.specs.Conditions.{InScope, conds_in, is_in, cond_step, cond_in}
use Rattle.golog_check.proofs.ArgLaws.{same-number, no-other}
use Rattle.golog_check.proofs.Layers.{fits-cond, fits-term, in-cond, written-cond, written-term, wording}
use Rattle.golog_print.specs.Printing as say
use Rattle.golog_print.specs.Printing.{stem_text, truth_text, sort_name, sort_item_name}
use Rattle.golog_print.specs.ReadBack.{IsTheoryOf, names_in}
use Rattle.golog_print.proofs.Alike.{Alike, AreAlike, first-of, none-of, word-as}
use Rattle.golog_print.proofs.DeclaredWords.{there-is, sort-name-word, sorts-once, no-keyword}
use Rattle.golog_print.proofs.Outcomes.{then-ok, row-ok, found-ok}
use Rattle.golog_print.proofs.Placed.{found-at, position-map}
use Rattle.golog_print.proofs.PrintedForms as form
use Rattle.golog_print.proofs.PrintedForms.{atom, list, binder_form, fluent_form, term_form, cond_form, form-term, form-cond}
use Rattle.golog_print.proofs.ReadArgs.{Ready, short-ok, variable-name, variable-short, wrong}
use Rattle.golog_print.proofs.ReadTerms.{parts-as, no-parts, name-not, call_of, FluentRead, fluent-read, TermRead, arg-term, fluent-of, shift-of}
use Rattle.golog_print.proofs.Scopes.{Scoped, variable, within-scoped}

-- forms of which the first two, the first three and the first four are like these
pub record Two (fs : List Form) (g h : Form) : Type 0 where
  pub first : Form
  pub second : Form
  pub are : fs ≡ first ∷ second ∷ []
  pub like_first : Alike first g
  pub like_second : Alike second h

pub two-of : (fs : List Form) (g h : Form) → AreAlike fs (g ∷ h ∷ []) → Two fs g h
two-of fs g h e =
    let p = first-of fs g (h ∷ []) e in
    let q = first-of p.others h [] p.rest in record {
      first = p.first;
      second = q.first;
      are = p.are ∙ ap (λ (xs : List Form). p.first ∷ xs) (q.are ∙ ap (λ (xs : List Form). q.first ∷ xs) (none-of q.others q.rest));
      like_first = p.alike;
      like_second = q.alike;
    }

pub record Three (fs : List Form) (g h i : Form) : Type 0 where
  pub first : Form
  pub second : Form
  pub third : Form
  pub are : fs ≡ first ∷ second ∷ third ∷ []
  pub like_first : Alike first g
  pub like_second : Alike second h
  pub like_third : Alike third i

pub three-of : (fs : List Form) (g h i : Form) → AreAlike fs (g ∷ h ∷ i ∷ []) → Three fs g h i
three-of fs g h i e =
    let p = first-of fs g (h ∷ i ∷ []) e in
    let q = two-of p.others h i p.rest in record {
      first = p.first;
      second = q.first;
      third = q.second;
      are = p.are ∙ ap (λ (xs : List Form). p.first ∷ xs) q.are;
      like_first = p.alike;
      like_second = q.like_first;
      like_third = q.like_second;
    }

-- no name of another kind is a keyword of a condition
pub record NoKeyword (name : Text) : Type 0 where
  not_not : same name (codes "not") ≡ false
  not_and : same name (codes "and") ≡ false
  not_or : same name (codes "or") ≡ false
  not_some : same name (codes "some") ≡ false
  not_all : same name (codes "all") ≡ false

neither : (a b : Bool) → (a || b) ≡ false → (a ≡ false) × (b ≡ false)
neither false b e = (refl, e)
neither true b e = wrong (sym e)

pub keyword-none : (name : Text) → is_keyword name ≡ false → NoKeyword name
keyword-none name e =
    let a = neither (same_text name (codes "unknown")) (list_any (same_text name) (codes "nil" ∷ codes "not" ∷ codes "and" ∷ codes "or" ∷ codes "some" ∷ codes "all" ∷ [])) e in
    let b = neither (same_text name (codes "nil")) (list_any (same_text name) (codes "not" ∷ codes "and" ∷ codes "or" ∷ codes "some" ∷ codes "all" ∷ [])) a.1 in
    let c = neither (same_text name (codes "not")) (list_any (same_text name) (codes "and" ∷ codes "or" ∷ codes "some" ∷ codes "all" ∷ [])) b.1 in
    let d = neither (same_text name (codes "and")) (list_any (same_text name) (codes "or" ∷ codes "some" ∷ codes "all" ∷ [])) c.1 in
    let f = neither (same_text name (codes "or")) (list_any (same_text name) (codes "some" ∷ codes "all" ∷ [])) d.1 in
    let g = neither (same_text name (codes "some")) (list_any (same_text name) (codes "all" ∷ [])) f.1 in
    let h = neither (same_text name (codes "all")) false g.1 in
    record { not_not = c.0; not_and = d.0; not_or = f.0; not_some = g.0; not_all = h.0 }

sort-names : (ds : List DraftSort) (agent : Agent) → map read.sort_name ds ≡ map (sort_item_name agent) (map sort_item ds)
sort-names [] agent = refl
sort-names (Range name low high at ∷ ds) agent = ap (λ (ns : List Text). name ∷ ns) (sort-names ds agent)
sort-names (Listed name constants at ∷ ds) agent = ap (λ (ns : List Text). name ∷ ns) (sort-names ds agent)

abbrev sides_made : DraftTerm → DraftTerm → DraftSides
sides_made one other = record { one = one; other = other }

abbrev pub binder_made : Text → ℕ → Binder
binder_made var sort = record { var = var; sort = sort }

abbrev bound_made : Binder → DraftCond → Bound
bound_made binder body = record { binder = binder; body = body }

abbrev compared : ℕ → Term → Term → Sides
compared sort one other = record { sort = sort; one = one; other = other }

module _ (P : Text → Type 0) (agent : Agent) where
  all-later : (xs ys : List Text) → AllByRecursion P (xs ++ ys) → AllByRecursion P ys
  all-later [] ys a = a
  all-later (x ∷ xs) ys a = all-later xs ys a.1

  names-apart : (items : List SortItem) → AllByRecursion P (flat_map sort_names items) → AllByRecursion P (map (sort_item_name agent) items)
  names-apart [] a = tt
  names-apart (item.Range name low high ∷ items) a = (a.0, names-apart items a.1)
  names-apart (item.Listed name constants ∷ items) a = (a.0, names-apart items (all-later constants (flat_map sort_names items) a.1))

-- two terms show the sort, where one does and the other shows no other
common-ok : (one other : Option ℕ) (sort : ℕ) → is_other one sort ≡ false → is_other other sort ≡ false → (one ≡ Some sort) ⊎ (other ≡ Some sort) → common one other ≡ Some sort
common-ok None None sort h k (inl e) = absurd (cc)
common-ok None None sort h k (inr e) = absurd (cc)
common-ok None (Some s) sort h k e = ap Some (no-other s sort k)
common-ok (Some s) None sort h k e = ap Some (no-other s sort h)
common-ok (Some s) (Some u) sort h k e =
    let one : s ≡ sort = no-other s sort h in
    let other : u ≡ sort = no-other u sort k in
    (λ i. if one i == other i then Some (one i) else None) ∙ ap (λ (b : Bool). if b then Some sort else None) (same-number sort)

either : (a b c : Bool) → ((a || b) || c) ≡ true → ((a || c) ≡ true) ⊎ ((b || c) ≡ true)
either true b c e = inl refl
either false true c e = inr refl
either false false c e = inl e

module _ (agent : Agent) (k : ℕ) (ready : Ready agent k) (theory : DraftTheory) (of : IsTheoryOf agent theory) where
  abbrev stem : Text
  stem = stem_text k

  abbrev names : Declared
  names = names_in agent

  -- the names of the sorts are declared once
  own-names : (items : List SortItem) → IsDistinct same_text (flat_map sort_names items) → IsDistinct same_text (map (sort_item_name agent) items)
  unfolding IsDistinct
  own-names [] d = tt
  own-names (item.Range name low high ∷ items) d = (names-apart (λ y. same_text name y ≡ false) agent items d.0, own-names items d.1)
  own-names (item.Listed name constants ∷ items) d =
      (names-apart (λ y. same_text name y ≡ false) agent items (all-later (λ y. same_text name y ≡ false) agent constants (flat_map sort_names items) d.0), own-names items (distinct-right constants (flat_map sort_names items) d.1))

  sort-found : (sort : ℕ) → is_sort agent sort ≡ true → sort_no theory (sort_name agent sort) ≡ Some sort
  sort-found sort h =
      let i = there-is agent.sorts sort (ltb-true sort (length agent.sorts) h) in
      let name = sort_item_name agent i.0 in
      let is : sort_name agent sort ≡ name = ap (λ (o : Option SortItem). option_map_or (sort_item_name agent) o []) i.1 in
      let there : slice_get (map (sort_item_name agent) agent.sorts) sort ≡ Some name = slice_get-map (sort_item_name agent) agent.sorts sort ∙ ap (option_map (sort_item_name agent)) i.1 in
      ap (sort_no theory) is
      ∙ sym (position-map (same name) read.sort_name theory.sorts)
      ∙ ap (position (same name)) (sort-names theory.sorts agent ∙ ap (map (sort_item_name agent)) of.sorts)
      ∙ found-at (map (sort_item_name agent) agent.sorts) sort name (own-names agent.sorts (sorts-once agent ready.formed)) there

  sort-ok : (f : Form) (sort : ℕ) → is_sort agent sort ≡ true → word f ≡ sort_name agent sort → (sort_of theory f).outcome ≡ Ok sort
  unfolding sort_of
  sort-ok f sort h e =
      row-ok (not (is_name (word f))) UNKNOWN_FORM (place_of f) (found UNKNOWN_SORT (place_of f) (sort_no theory (word f))) sort
      (ap (λ (t : Text). not (is_name t)) e ∙ ap not (sort-name-word agent ready.formed sort h).named)
      (found-ok UNKNOWN_SORT (place_of f) (sort_no theory (word f)) sort (ap (sort_no theory) e ∙ sort-found sort h))

  binder-by : (f var sort : Form) (x s : ℕ) → x < 32 → is_sort agent s ≡ true → word var ≡ variable stem x → word sort ≡ sort_name agent s
      → (binder_by theory (place_of f) (var ∷ sort ∷ [])).outcome ≡ Ok (binder_made (variable stem x) s)
  binder-by f var sort x s l h e g =
      row-ok (not (is_name (word var))) UNKNOWN_FORM (place_of var) (short_name var >>= λ (v : Text). sort_of theory sort >>= λ (own : ℕ). gives (binder_made v own)) (binder_made (variable stem x) s)
      (ap (λ (t : Text). not (is_name t)) e ∙ ap not (variable-name agent k ready x l))
      (then-ok (short_name var) (λ (v : Text). sort_of theory sort >>= λ (own : ℕ). gives (binder_made v own)) (variable stem x) (binder_made (variable stem x) s) (short-ok var (variable stem x) e (variable-short agent k ready x l))
      (then-ok (sort_of theory sort) (λ (own : ℕ). gives (binder_made (variable stem x) own)) s (binder_made (variable stem x) s) (sort-ok sort s h g) refl))

  pub binder-ok : (f : Form) (x sort : ℕ) → binder_fits agent x sort ≡ true → Alike f (binder_form agent stem x sort) → (binder_of theory f).outcome ≡ Ok (binder_made (variable stem x) sort)
  unfolding binder_of
  binder-ok f x sort h a =
      let two = two-of (parts f) (atom (variable stem x)) (atom (sort_name agent sort)) (parts-as f (atom (variable stem x) ∷ atom (sort_name agent sort) ∷ []) a) in
      ap (λ (fs : List Form). (binder_by theory (place_of f) fs).outcome) two.are
      ∙ binder-by f two.first two.second x sort (ltb-true x 32 (and-left (nat_lt x 32) (is_sort agent sort) h)) (and-right (nat_lt x 32) (is_sort agent sort) h)
      (word-as two.first (variable stem x) two.like_first) (word-as two.second (sort_name agent sort) two.like_second)

  -- what a form spells as a condition, and what that is in a scope
  pub record CondRead (scope : Scope) (n : ℕ) (c : Cond) (f : Form) : Type 0 where
    pub draft : DraftCond
    pub read : (cond_of theory f n).outcome ≡ Ok draft
    pub means : (cond_in names draft scope).outcome ≡ Ok c

  abbrev pub CondReads : Cond → Type 0
  CondReads c = (bound : fits.Scope) (scope : Scope) (n : ℕ) → n ≡ length scope → Scoped stem bound scope → cond_fits agent c bound ≡ true → is_written_cond agent c n ≡ true
      → (f : Form) → Alike f (cond_form agent stem c) → CondRead scope n c f

  abbrev TermReads : Term → Type 0
  TermReads t = (bound : fits.Scope) (scope : Scope) (scoped : Scoped stem bound scope) (sort : ℕ) → term_fits agent t bound sort ≡ true → (wording agent t).written ≡ true
      → (f : Form) → Alike f (term_form agent stem t sort) → TermRead agent k ready theory of bound scope scoped sort t f

  abbrev AT : Type 0
  AT = (t : Term) × TermReads t

  abbrev AC : Type 0
  AC = (c : Cond) × CondReads c

  abbrev term_at : Term-F AC AT → Term-F Cond Term
  term_at y = map-Term AC AT Cond Term (λ e. e.0) (λ e. e.0) y

  abbrev cond_at : Cond-F AC AT → Cond-F Cond Term
  cond_at y = map-Cond AC AT Cond Term (λ e. e.0) (λ e. e.0) y

  -- what a draft means, by its parts
  means-by : (l : DraftCond-F DraftCond) (d : DraftCond) (scope : Scope) (c : Cond) → roll-DraftCond l ≡ d
      → (cond_step names (map-DraftCond DraftCond InScope (cond_in names) l) scope).outcome ≡ Ok c → (cond_in names d scope).outcome ≡ Ok c
  means-by l d scope c rolls h = ap (λ (g : InScope). (g scope).outcome) (ap (cond_in names) (sym rolls) ∙ in-cond names l) ∙ h

  -- ---- terms

  module _ (bound : fits.Scope) (scope : Scope) (scoped : Scoped stem bound scope) where
    abbrev IsRead : ℕ → Term → Form → Type 0
    IsRead sort t f = TermRead agent k ready theory of bound scope scoped sort t f

    term-made : (y : Term-F AC AT) (sort : ℕ)
        → fits.term_step agent (map-Term Cond Term (fits.Scope → Bool) (fits.Scope → ℕ → Bool) (cond_fits agent) (term_fits agent) (term_at y)) bound sort ≡ true
        → (written_term_step agent (map-Term Cond Term (ℕ → Bool) Wording (is_written_cond agent) (wording agent) (term_at y))).written ≡ true
        → (f : Form) → Alike f (form.term_step agent stem (map-Term Cond Term Form (ℕ → Form) (cond_form agent stem) (term_form agent stem) (term_at y)) sort) → IsRead sort (roll-Term (term_at y)) f
    term-made (ArgTerm arg) sort h w f a = subst (λ (t : Term). IsRead sort t f) (sym (term.rolls-Arg arg)) (arg-term agent k ready theory of bound scope scoped sort arg f h a)
    term-made (Fluent fluent args) sort h w f a = subst (λ (t : Term). IsRead sort t f) (sym (term.rolls-Fluent fluent args)) (fluent-of agent k ready theory of bound scope scoped sort fluent args f h a)
    term-made (Shift own t by) sort h w f a =
        let same : own ≡ sort = eqb-true own sort (and-left (own == sort) (is_range agent sort) (and-left (own == sort && is_range agent sort) (term_fits agent t.0 bound sort) h)) in
        let inner : term_fits agent t.0 bound sort ≡ true = and-right (own == sort && is_range agent sort) (term_fits agent t.0 bound sort) h in
        let reads = λ (one : Form) (b : Alike one (term_form agent stem t.0 sort)). t.1 bound scope scoped sort inner (and-left (wording agent t.0).written (is_amount by) w) one b in
        subst (λ (o : ℕ). ((o == sort && is_range agent sort) && term_fits agent t.0 bound sort) ≡ true
        → Alike f (list (atom (say.sign_text by) ∷ term_form agent stem t.0 o ∷ atom (decimal (unsigned_abs by)) ∷ [])) → IsRead sort (roll-Term (Shift o t.0 by)) f) (sym same)
        (λ g b. subst (λ (x : Term). IsRead sort x f) (sym (term.rolls-Shift sort t.0 by)) (shift-of agent k ready theory of bound scope scoped sort t.0 by f g (and-right (wording agent t.0).written (is_amount by) w) reads b)) h a
    term-made (Ite c one other) sort h w f a = wrong w

  term-layer : (y : Term-F AC AT) → TermReads (roll-Term (term_at y))
  term-layer y bound scope scoped sort h w f a =
      term-made bound scope scoped y sort
      (sym (ap (λ (g : fits.Scope → ℕ → Bool). g bound sort) (fits-term agent (term_at y))) ∙ h)
      (sym (ap (λ (x : Wording). x.written) (written-term agent (term_at y))) ∙ w) f
      (a ∙ ap (λ (g : ℕ → Form). plain (g sort)) (form-term agent stem (term_at y)))

  -- ---- conditions

  -- a form behind a word, by its parts
  by-word : (f head : Form) (others : List Form) (n : ℕ) (text : Text) → parts f ≡ head ∷ others → word head ≡ text → cond_of theory f n ≡ cond_list theory f n (cond_keyword text) (map (cond_part theory) others)
  by-word f head others n text are e =
      cond_of-parts theory f n ∙ ap (λ (fs : List Form). cond_by theory f (map (cond_part theory) fs) n) are ∙ ap (λ (t : Text). cond_list theory f n (cond_keyword t) (map (cond_part theory) others)) e

  truth-ok : (b : Bool) (f : Form) → word f ≡ truth_text b → (truth_of f).outcome ≡ Ok (draft.Truth b (place_of f))
  unfolding truth_of
  truth-ok true f e = ap (λ (t : Text). (if same t (codes "true") then gives (draft.Truth true (place_of f)) else if same t (codes "false") then gives (draft.Truth false (place_of f)) else refused UNKNOWN_FORM (place_of f)).outcome) e
  truth-ok false f e = ap (λ (t : Text). (if same t (codes "true") then gives (draft.Truth true (place_of f)) else if same t (codes "false") then gives (draft.Truth false (place_of f)) else refused UNKNOWN_FORM (place_of f)).outcome) e

  truth-read : (b : Bool) (scope : Scope) (n : ℕ) (f : Form) → Alike f (atom (truth_text b)) → CondRead scope n (cond.Truth b) f
  truth-read b scope n f a =
      let at = place_of f in record {
        draft = draft.Truth b at;
        read = ap (λ (r : Reading DraftCond). r.outcome) (cond_of-none theory f n (no-parts f (truth_text b) a)) ∙ truth-ok b f (word-as f (truth_text b) a);
        means = means-by (layer.Truth b at) (draft.Truth b at) scope (cond.Truth b) (draft.rolls-Truth b at) refl;
      }

  module _ (bound : fits.Scope) (scope : Scope) (n : ℕ) (long : n ≡ length scope) (scoped : Scoped stem bound scope) where
    fluent-falls : (fluent : ℕ) (args : List Arg) (f : Form) (r : FluentRead agent k ready theory of bound scope scoped bool_sort fluent args f)
        → (cond_of theory f n).outcome ≡ Ok (draft.Is fluent r.drafts (place_of f))
    unfolding cond_keyword fluent_cond
    fluent-falls fluent args f r =
        let at = place_of f in
        let ps = map (cond_part theory) r.others in
        let none = keyword-none r.name (no-keyword agent ready.formed r.name r.declared) in
        let equal : same r.name (codes "=") ≡ false = name-not r.name (codes "=") r.is_word refl in
        let less : same r.name (codes "<") ≡ false = name-not r.name (codes "<") r.is_word refl in
        let most : same r.name (codes "<=") ≡ false = name-not r.name (codes "<=") r.is_word refl in
        let fluent_word : cond_keyword r.name ≡ None =
        (λ i. if equal i then Some keyword.Equal else if less i then Some keyword.Less else if most i then Some keyword.AtMost
        else if none.not_not i then Some keyword.Not else if none.not_and i then Some keyword.And else if none.not_or i then Some keyword.Or
        else if none.not_some i then Some keyword.ForSome else if none.not_all i then Some keyword.ForAll else None) in
        ap (λ (x : Reading DraftCond). x.outcome) (by-word f r.first r.others n r.name r.are r.named)
        ∙ ap (λ (word : Option CondKeyword). (cond_list theory f n word ps).outcome) fluent_word
        ∙ then-ok (fluent_called theory f) (λ (c : Called). gives (draft.Is c.item c.args at)) (call_of fluent r.drafts) (draft.Is fluent r.drafts at) r.calls refl

    is-ok : (fluent at : ℕ) (args : List Arg) (drafts : List DraftArg) → fluent_sort names fluent ≡ Some bool_sort → (args_in names scope (fluent_sorts names fluent) drafts).outcome ≡ Ok args
        → (is_in names scope fluent drafts at).outcome ≡ Ok args
    unfolding is_in
    is-ok fluent at args drafts e h =
        row-ok (is_other (fluent_sort names fluent) bool_sort) SORT_CLASH at (args_in names scope (fluent_sorts names fluent) drafts) args (ap (λ (o : Option ℕ). is_other o bool_sort) e) h

    is-read : (fluent : ℕ) (args : List Arg) (f : Form) → fits.fluent_fits agent bound bool_sort fluent args ≡ true → Alike f (fluent_form agent stem fluent args) → CondRead scope n (cond.Is fluent args) f
    is-read fluent args f h a =
        let r = fluent-read agent k ready theory of bound scope scoped bool_sort fluent args f h a in
        let at = place_of f in record {
          draft = draft.Is fluent r.drafts at;
          read = fluent-falls fluent args f r;
          means =
              means-by (layer.Is fluent r.drafts at) _ scope _ (draft.rolls-Is fluent r.drafts at)
              (then-ok (is_in names scope fluent r.drafts at) (λ (x : List Arg). gives (cond.Is fluent x)) args (cond.Is fluent args) (is-ok fluent at args r.drafts r.of_sort r.means) refl);
        }

    -- both sides of a comparison
    record SidesRead (is_order : Bool) (sort : ℕ) (t u : Term) (one other : Form) : Type 0 where
      first : DraftTerm
      second : DraftTerm
      spells : (at : ℕ) → (sides_of theory at (map (cond_part theory) (one ∷ other ∷ []))).outcome ≡ Ok (sides_made first second)
      are_in : (sides_in names scope is_order first second).outcome ≡ Ok (compared sort t u)

    sides-spelled : (one other : Form) (d e : DraftTerm) (at : ℕ) → (term_of theory one).outcome ≡ Ok d → (term_of theory other).outcome ≡ Ok e
        → (sides_of theory at (map (cond_part theory) (one ∷ other ∷ []))).outcome ≡ Ok (sides_made d e)
    unfolding sides_of
    sides-spelled one other d e at h g =
        then-ok (term_of theory one) (λ (x : DraftTerm). term_of theory other >>= λ (y : DraftTerm). gives (sides_made x y)) d (sides_made d e) h
        (then-ok (term_of theory other) (λ (y : DraftTerm). gives (sides_made d y)) e (sides_made d e) g refl)

    sides-ok : (is_order : Bool) (sort : ℕ) (t u : Term) (d e : DraftTerm) → common (term_sort names scope d) (term_sort names scope e) ≡ Some sort → (is_order && not (is_range agent sort)) ≡ false
        → (term_as names scope d sort).outcome ≡ Ok t → (term_as names scope e sort).outcome ≡ Ok u → (sides_in names scope is_order d e).outcome ≡ Ok (compared sort t u)
    unfolding sides_in
    sides-ok is_order sort t u d e c o h g =
        then-ok (found SORT_CLASH (term_place d) (common (term_sort names scope d) (term_sort names scope e)))
        (λ (s : ℕ). row (is_order && not (sorts.is_range names s)) SORT_CLASH (term_place d) (term_as names scope d s >>= λ (x : Term). term_as names scope e s >>= λ (y : Term). gives (compared s x y))) sort (compared sort t u)
        (found-ok SORT_CLASH (term_place d) (common (term_sort names scope d) (term_sort names scope e)) sort c)
        (row-ok (is_order && not (sorts.is_range names sort)) SORT_CLASH (term_place d) (term_as names scope d sort >>= λ (x : Term). term_as names scope e sort >>= λ (y : Term). gives (compared sort x y)) (compared sort t u) o
        (then-ok (term_as names scope d sort) (λ (x : Term). term_as names scope e sort >>= λ (y : Term). gives (compared sort x y)) t (compared sort t u) h
        (then-ok (term_as names scope e sort) (λ (y : Term). gives (compared sort t y)) u (compared sort t u) g refl)))

    sides-read : (is_order : Bool) (sort : ℕ) (t u : AT) (one other : Form) → (of_sort : Bool) → (of_sort ≡ true → (is_order && not (is_range agent sort)) ≡ false)
        → ((of_sort && term_fits agent t.0 bound sort) && term_fits agent u.0 bound sort) ≡ true → written_sides agent sort (wording agent t.0) (wording agent u.0) ≡ true
        → Alike one (term_form agent stem t.0 sort) → Alike other (term_form agent stem u.0 sort) → SidesRead is_order sort t.0 u.0 one other
    sides-read is_order sort t u one other of_sort ordered h w a b =
        let front = and-left (of_sort && term_fits agent t.0 bound sort) (term_fits agent u.0 bound sort) h in
        let ws = (wording agent t.0).written in
        let wo = (wording agent u.0).written in
        let shown = ((wording agent t.0).shows_sort || (wording agent u.0).shows_sort) || not (is_range agent sort) in
        let words = and-left (ws && wo) shown w in
        let r = t.1 bound scope scoped sort (and-right of_sort (term_fits agent t.0 bound sort) front) (and-left ws wo words) one a in
        let q = u.1 bound scope scoped sort (and-right (of_sort && term_fits agent t.0 bound sort) (term_fits agent u.0 bound sort) h) (and-right ws wo words) other b in
        let one_shows = either (wording agent t.0).shows_sort (wording agent u.0).shows_sort (not (is_range agent sort)) (and-right (ws && wo) shown w) in
        let c = common-ok (term_sort names scope r.draft) (term_sort names scope q.draft) sort r.shown q.shown (elim one_shows [ inl e ↦ inl (r.shows e) | inr e ↦ inr (q.shows e) ]) in
        record {
          first = r.draft;
          second = q.draft;
          spells = λ at. sides-spelled one other r.draft q.draft at r.read q.read;
          are_in = sides-ok is_order sort t.0 u.0 r.draft q.draft c (ordered (and-left of_sort (term_fits agent t.0 bound sort) front)) r.means q.means;
        }

    equal-spelled : (f sign one other : Form) (d e : DraftTerm) → parts f ≡ sign ∷ one ∷ other ∷ [] → word sign ≡ codes "=" → (sides_of theory (place_of f) (map (cond_part theory) (one ∷ other ∷ []))).outcome ≡ Ok (sides_made d e)
        → (cond_of theory f n).outcome ≡ Ok (draft.Equal d e (place_of f))
    unfolding cond_keyword keyword_cond equal_of
    equal-spelled f sign one other d e are s h =
        ap (λ (x : Reading DraftCond). x.outcome) (by-word f sign (one ∷ other ∷ []) n (codes "=") are s)
        ∙ then-ok (sides_of theory (place_of f) (map (cond_part theory) (one ∷ other ∷ []))) (λ (x : DraftSides). gives (draft.Equal x.one x.other (place_of f))) (sides_made d e) (draft.Equal d e (place_of f)) h refl

    less-spelled : (f sign one other : Form) (d e : DraftTerm) → parts f ≡ sign ∷ one ∷ other ∷ [] → word sign ≡ codes "<" → (sides_of theory (place_of f) (map (cond_part theory) (one ∷ other ∷ []))).outcome ≡ Ok (sides_made d e)
        → (cond_of theory f n).outcome ≡ Ok (draft.Less d e (place_of f))
    unfolding cond_keyword keyword_cond less_of
    less-spelled f sign one other d e are s h =
        ap (λ (x : Reading DraftCond). x.outcome) (by-word f sign (one ∷ other ∷ []) n (codes "<") are s)
        ∙ then-ok (sides_of theory (place_of f) (map (cond_part theory) (one ∷ other ∷ []))) (λ (x : DraftSides). gives (draft.Less x.one x.other (place_of f))) (sides_made d e) (draft.Less d e (place_of f)) h refl

    at-most-spelled : (f sign one other : Form) (d e : DraftTerm) → parts f ≡ sign ∷ one ∷ other ∷ [] → word sign ≡ codes "<=" → (sides_of theory (place_of f) (map (cond_part theory) (one ∷ other ∷ []))).outcome ≡ Ok (sides_made d e)
        → (cond_of theory f n).outcome ≡ Ok (draft.AtMost d e (place_of f))
    unfolding cond_keyword keyword_cond at_most_of
    at-most-spelled f sign one other d e are s h =
        ap (λ (x : Reading DraftCond). x.outcome) (by-word f sign (one ∷ other ∷ []) n (codes "<=") are s)
        ∙ then-ok (sides_of theory (place_of f) (map (cond_part theory) (one ∷ other ∷ []))) (λ (x : DraftSides). gives (draft.AtMost x.one x.other (place_of f))) (sides_made d e) (draft.AtMost d e (place_of f)) h refl

    -- a comparison behind its sign
    compared-read : (text : Text) (is_order : Bool) (made : DraftTerm → DraftTerm → ℕ → DraftCond) (make : ℕ → Term → Term → Cond)
        → ((f sign one other : Form) (d e : DraftTerm) → parts f ≡ sign ∷ one ∷ other ∷ [] → word sign ≡ text
        → (sides_of theory (place_of f) (map (cond_part theory) (one ∷ other ∷ []))).outcome ≡ Ok (sides_made d e) → (cond_of theory f n).outcome ≡ Ok (made d e (place_of f)))
        → ((d e : DraftTerm) (at sort : ℕ) (t u : Term) → (sides_in names scope is_order d e).outcome ≡ Ok (compared sort t u) → (cond_in names (made d e at) scope).outcome ≡ Ok (make sort t u))
        → (sort : ℕ) (t u : AT) (f : Form) (of_sort : Bool) → (of_sort ≡ true → (is_order && not (is_range agent sort)) ≡ false)
        → ((of_sort && term_fits agent t.0 bound sort) && term_fits agent u.0 bound sort) ≡ true → written_sides agent sort (wording agent t.0) (wording agent u.0) ≡ true
        → Alike f (list (atom text ∷ term_form agent stem t.0 sort ∷ term_form agent stem u.0 sort ∷ [])) → CondRead scope n (make sort t.0 u.0) f
    compared-read text is_order made make spelled meant sort t u f of_sort ordered h w a =
        let p = three-of (parts f) (atom text) (term_form agent stem t.0 sort) (term_form agent stem u.0 sort) (parts-as f (atom text ∷ term_form agent stem t.0 sort ∷ term_form agent stem u.0 sort ∷ []) a) in
        let s = sides-read is_order sort t u p.second p.third of_sort ordered h w p.like_second p.like_third in
        record {
          draft = made s.first s.second (place_of f);
          read = spelled f p.first p.second p.third s.first s.second p.are (word-as p.first text p.like_first) (s.spells (place_of f));
          means = meant s.first s.second (place_of f) sort t.0 u.0 s.are_in;
        }

    equal-read : (sort : ℕ) (t u : AT) (f : Form) → ((is_sort agent sort && term_fits agent t.0 bound sort) && term_fits agent u.0 bound sort) ≡ true
        → written_sides agent sort (wording agent t.0) (wording agent u.0) ≡ true
        → Alike f (list (atom (codes "=") ∷ term_form agent stem t.0 sort ∷ term_form agent stem u.0 sort ∷ [])) → CondRead scope n (cond.Equal sort t.0 u.0) f
    equal-read sort t u f =
        compared-read (codes "=") false (λ d e at. draft.Equal d e at) (λ s x y. cond.Equal s x y) equal-spelled (λ d e at s x y h.
        means-by (layer.Equal d e at) (draft.Equal d e at) scope (cond.Equal s x y) (draft.rolls-Equal d e at)
        (then-ok (sides_in names scope false d e) (λ (x : Sides). gives (cond.Equal x.sort x.one x.other)) (compared s x y) (cond.Equal s x y) h refl))
        sort t u f (is_sort agent sort) (λ _. refl)

    less-read : (sort : ℕ) (t u : AT) (f : Form) → ((is_range agent sort && term_fits agent t.0 bound sort) && term_fits agent u.0 bound sort) ≡ true
        → written_sides agent sort (wording agent t.0) (wording agent u.0) ≡ true
        → Alike f (list (atom (codes "<") ∷ term_form agent stem t.0 sort ∷ term_form agent stem u.0 sort ∷ [])) → CondRead scope n (cond.Less sort t.0 u.0) f
    less-read sort t u f =
        compared-read (codes "<") true (λ d e at. draft.Less d e at) (λ s x y. cond.Less s x y) less-spelled (λ d e at s x y h.
        means-by (layer.Less d e at) (draft.Less d e at) scope (cond.Less s x y) (draft.rolls-Less d e at)
        (then-ok (sides_in names scope true d e) (λ (x : Sides). gives (cond.Less x.sort x.one x.other)) (compared s x y) (cond.Less s x y) h refl))
        sort t u f (is_range agent sort) (λ e. ap not e)

    at-most-read : (sort : ℕ) (t u : AT) (f : Form) → ((is_range agent sort && term_fits agent t.0 bound sort) && term_fits agent u.0 bound sort) ≡ true
        → written_sides agent sort (wording agent t.0) (wording agent u.0) ≡ true
        → Alike f (list (atom (codes "<=") ∷ term_form agent stem t.0 sort ∷ term_form agent stem u.0 sort ∷ [])) → CondRead scope n (cond.AtMost sort t.0 u.0) f
    at-most-read sort t u f =
        compared-read (codes "<=") true (λ d e at. draft.AtMost d e at) (λ s x y. cond.AtMost s x y) at-most-spelled (λ d e at s x y h.
        means-by (layer.AtMost d e at) (draft.AtMost d e at) scope (cond.AtMost s x y) (draft.rolls-AtMost d e at)
        (then-ok (sides_in names scope true d e) (λ (x : Sides). gives (cond.AtMost x.sort x.one x.other)) (compared s x y) (cond.AtMost s x y) h refl))
        sort t u f (is_range agent sort) (λ e. ap not e)

    not-spelled : (f sign one : Form) (d : DraftCond) → parts f ≡ sign ∷ one ∷ [] → word sign ≡ codes "not" → (cond_of theory one n).outcome ≡ Ok d → (cond_of theory f n).outcome ≡ Ok (draft.Not d (place_of f))
    unfolding cond_keyword keyword_cond not_of
    not-spelled f sign one d are s h =
        ap (λ (x : Reading DraftCond). x.outcome) (by-word f sign (one ∷ []) n (codes "not") are s)
        ∙ then-ok (cond_of theory one n) (λ (x : DraftCond). gives (draft.Not x (place_of f))) d (draft.Not d (place_of f)) h refl

    not-read : (c : AC) (f : Form) → cond_fits agent c.0 bound ≡ true → is_written_cond agent c.0 n ≡ true → Alike f (list (atom (codes "not") ∷ cond_form agent stem c.0 ∷ [])) → CondRead scope n (cond.Not c.0) f
    not-read c f h w a =
        let p = two-of (parts f) (atom (codes "not")) (cond_form agent stem c.0) (parts-as f (atom (codes "not") ∷ cond_form agent stem c.0 ∷ []) a) in
        let r = c.1 bound scope n long scoped h w p.second p.like_second in
        let at = place_of f in record {
          draft = draft.Not r.draft at;
          read = not-spelled f p.first p.second r.draft p.are (word-as p.first (codes "not") p.like_first) r.read;
          means =
              means-by (layer.Not r.draft at) _ scope _ (draft.rolls-Not r.draft at)
              (then-ok (cond_in names r.draft scope) (λ (x : Cond). gives (cond.Not x)) c.0 (cond.Not c.0) r.means refl);
        }

    -- conditions behind those that are read
    record Behind (cs : List Cond) (forms : List Form) (before : List DraftCond) (done : List Cond) : Type 0 where
      drafts : List DraftCond
      read : (each (λ (_ : List DraftCond) (part : Part (ℕ → Reading DraftCond)). part.spelled n) before (map (cond_part theory) forms)).outcome ≡ Ok (before ++ drafts)
      means : (each (λ (_ : List Cond) (one : InScope). one scope) done (map (cond_in names) drafts)).outcome ≡ Ok (done ++ cs)

    behind : (cs : List AC) (forms : List Form) (before : List DraftCond) (done : List Cond)
        → list_all (λ (c : fits.Scope → Bool). c bound) (map (cond_fits agent) (map (λ (e : AC). e.0) cs)) ≡ true
        → list_all (λ (c : ℕ → Bool). c n) (map (is_written_cond agent) (map (λ (e : AC). e.0) cs)) ≡ true
        → AreAlike forms (map (cond_form agent stem) (map (λ (e : AC). e.0) cs)) → Behind (map (λ (e : AC). e.0) cs) forms before done
    behind [] forms before done h w a =
        let none = none-of forms a in record {
          drafts = [];
          read = ap (λ (fs : List Form). (each (λ (_ : List DraftCond) (part : Part (ℕ → Reading DraftCond)). part.spelled n) before (map (cond_part theory) fs)).outcome) none ∙ ap Ok (sym (append-nil before));
          means = ap Ok (sym (append-nil done));
        }
    behind (c ∷ cs) forms before done h w a =
        let rest = map (λ (e : AC). e.0) cs in
        let p = first-of forms (cond_form agent stem c.0) (map (cond_form agent stem) rest) a in
        let r = c.1 bound scope n long scoped (and-left (cond_fits agent c.0 bound) (list_all (λ (c : fits.Scope → Bool). c bound) (map (cond_fits agent) rest)) h)
        (and-left (is_written_cond agent c.0 n) (list_all (λ (c : ℕ → Bool). c n) (map (is_written_cond agent) rest)) w) p.first p.alike in
        let others = behind cs p.others (before ++ r.draft ∷ []) (done ++ c.0 ∷ [])
        (and-right (cond_fits agent c.0 bound) (list_all (λ (c : fits.Scope → Bool). c bound) (map (cond_fits agent) rest)) h)
        (and-right (is_written_cond agent c.0 n) (list_all (λ (c : ℕ → Bool). c n) (map (is_written_cond agent) rest)) w) p.rest in
        record {
          drafts = r.draft ∷ others.drafts;
          read =
              ap (λ (fs : List Form). (each (λ (_ : List DraftCond) (part : Part (ℕ → Reading DraftCond)). part.spelled n) before (map (cond_part theory) fs)).outcome) p.are
              ∙ then-ok (cond_of theory p.first n) (λ (x : DraftCond). each (λ (_ : List DraftCond) (part : Part (ℕ → Reading DraftCond)). part.spelled n) (before ++ x ∷ []) (map (cond_part theory) p.others)) r.draft ((before ++ r.draft ∷ []) ++ others.drafts) r.read others.read
              ∙ ap Ok (append_assoc before (r.draft ∷ []) others.drafts);
          means =
              then-ok (cond_in names r.draft scope) (λ (x : Cond). each (λ (_ : List Cond) (one : InScope). one scope) (done ++ x ∷ []) (map (cond_in names) others.drafts)) c.0 ((done ++ c.0 ∷ []) ++ rest) r.means others.means
              ∙ ap Ok (append_assoc done (c.0 ∷ []) rest);
        }

    and-spelled : (f sign : Form) (others : List Form) (ds : List DraftCond) → parts f ≡ sign ∷ others → word sign ≡ codes "and"
        → (each (λ (_ : List DraftCond) (part : Part (ℕ → Reading DraftCond)). part.spelled n) [] (map (cond_part theory) others)).outcome ≡ Ok ds → (cond_of theory f n).outcome ≡ Ok (draft.And ds (place_of f))
    unfolding cond_keyword keyword_cond and_of conds_of
    and-spelled f sign others ds are s h =
        ap (λ (x : Reading DraftCond). x.outcome) (by-word f sign others n (codes "and") are s)
        ∙ then-ok (conds_of n (map (cond_part theory) others)) (λ (x : List DraftCond). gives (draft.And x (place_of f))) ds (draft.And ds (place_of f)) h refl

    or-spelled : (f sign : Form) (others : List Form) (ds : List DraftCond) → parts f ≡ sign ∷ others → word sign ≡ codes "or"
        → (each (λ (_ : List DraftCond) (part : Part (ℕ → Reading DraftCond)). part.spelled n) [] (map (cond_part theory) others)).outcome ≡ Ok ds → (cond_of theory f n).outcome ≡ Ok (draft.Or ds (place_of f))
    unfolding cond_keyword keyword_cond or_of conds_of
    or-spelled f sign others ds are s h =
        ap (λ (x : Reading DraftCond). x.outcome) (by-word f sign others n (codes "or") are s)
        ∙ then-ok (conds_of n (map (cond_part theory) others)) (λ (x : List DraftCond). gives (draft.Or x (place_of f))) ds (draft.Or ds (place_of f)) h refl

    -- conditions behind a word
    several-read : (text : Text) (made : List DraftCond → ℕ → DraftCond) (make : List Cond → Cond)
        → ((f sign : Form) (others : List Form) (ds : List DraftCond) → parts f ≡ sign ∷ others → word sign ≡ text
        → (each (λ (_ : List DraftCond) (part : Part (ℕ → Reading DraftCond)). part.spelled n) [] (map (cond_part theory) others)).outcome ≡ Ok ds → (cond_of theory f n).outcome ≡ Ok (made ds (place_of f)))
        → ((ds : List DraftCond) (at : ℕ) (cs : List Cond) → (conds_in scope (map (cond_in names) ds)).outcome ≡ Ok cs → (cond_in names (made ds at) scope).outcome ≡ Ok (make cs))
        → (cs : List AC) (f : Form)
        → list_all (λ (c : fits.Scope → Bool). c bound) (map (cond_fits agent) (map (λ (e : AC). e.0) cs)) ≡ true
        → list_all (λ (c : ℕ → Bool). c n) (map (is_written_cond agent) (map (λ (e : AC). e.0) cs)) ≡ true
        → Alike f (list (atom text ∷ map (cond_form agent stem) (map (λ (e : AC). e.0) cs))) → CondRead scope n (make (map (λ (e : AC). e.0) cs)) f
    several-read text made make spelled meant cs f h w a =
        let conds = map (λ (e : AC). e.0) cs in
        let p = first-of (parts f) (atom text) (map (cond_form agent stem) conds) (parts-as f (atom text ∷ map (cond_form agent stem) conds) a) in
        let b = behind cs p.others [] [] h w p.rest in
        record {
          draft = made b.drafts (place_of f);
          read = spelled f p.first p.others b.drafts p.are (word-as p.first text p.alike) b.read;
          means = meant b.drafts (place_of f) conds b.means;
        }

    and-means : (ds : List DraftCond) (at : ℕ) (cs : List Cond) → (conds_in scope (map (cond_in names) ds)).outcome ≡ Ok cs → (cond_in names (draft.And ds at) scope).outcome ≡ Ok (cond.And cs)
    and-means ds at cs h =
        means-by (layer.And ds at) (draft.And ds at) scope (cond.And cs) (draft.rolls-And ds at) (then-ok (conds_in scope (map (cond_in names) ds)) (λ (x : List Cond). gives (cond.And x)) cs (cond.And cs) h refl)

    or-means : (ds : List DraftCond) (at : ℕ) (cs : List Cond) → (conds_in scope (map (cond_in names) ds)).outcome ≡ Ok cs → (cond_in names (draft.Or ds at) scope).outcome ≡ Ok (cond.Or cs)
    or-means ds at cs h =
        means-by (layer.Or ds at) (draft.Or ds at) scope (cond.Or cs) (draft.rolls-Or ds at) (then-ok (conds_in scope (map (cond_in names) ds)) (λ (x : List Cond). gives (cond.Or x)) cs (cond.Or cs) h refl)

    -- a binder of the next variable
    record BoundRead (var sort : ℕ) (c : Cond) (binder body : Form) : Type 0 where
      inner : DraftCond
      spells : (at : ℕ) → (bound_of theory n at (map (cond_part theory) (binder ∷ body ∷ []))).outcome ≡ Ok (bound_made (binder_made (variable stem var) sort) inner)
      is : (cond_in names inner (within (variable stem var) sort scope)).outcome ≡ Ok c
      number : variable_no scope ≡ var

    bound-spelled : (var sort : ℕ) (binder body : Form) (d : DraftCond) (at : ℕ) → n < 32 → (binder_of theory binder).outcome ≡ Ok (binder_made (variable stem var) sort) → (cond_of theory body (n + 1)).outcome ≡ Ok d
        → (bound_of theory n at (map (cond_part theory) (binder ∷ body ∷ []))).outcome ≡ Ok (bound_made (binder_made (variable stem var) sort) d)
    unfolding bound_of
    bound-spelled var sort binder body d at l h g =
        row-ok (nat_le VARIABLES n) COUNT at (binder_of theory binder >>= λ (b : Binder). cond_of theory body (n + 1) >>= λ (x : DraftCond). gives (bound_made b x)) (bound_made (binder_made (variable stem var) sort) d)
        (lt-leb 32 n l)
        (then-ok (binder_of theory binder) (λ (b : Binder). cond_of theory body (n + 1) >>= λ (x : DraftCond). gives (bound_made b x)) (binder_made (variable stem var) sort) (bound_made (binder_made (variable stem var) sort) d) h
        (then-ok (cond_of theory body (n + 1)) (λ (x : DraftCond). gives (bound_made (binder_made (variable stem var) sort) x)) d (bound_made (binder_made (variable stem var) sort) d) g refl))

    -- the scope within the binder
    pub deeper : (var sort : ℕ) → var ≡ n → n < 32 → Scoped stem (fits.bound bound var sort) (within (variable stem var) sort scope)
    deeper var sort e l =
        let same : length scope ≡ var = sym long ∙ sym e in
        subst (λ (v : ℕ). Scoped stem (fits.bound bound v sort) (within (variable stem v) sort scope)) same (within-scoped stem bound scope sort scoped (omega (arith, long, l)))

    bound-read : (var sort : ℕ) (c : AC) (binder body : Form) → (binder_fits agent var sort && cond_fits agent c.0 (fits.bound bound var sort)) ≡ true
        → (var == n && is_written_cond agent c.0 (n + 1)) ≡ true → Alike binder (binder_form agent stem var sort) → Alike body (cond_form agent stem c.0) → BoundRead var sort c.0 binder body
    bound-read var sort c binder body h w a b =
        let fit = and-left (binder_fits agent var sort) (cond_fits agent c.0 (fits.bound bound var sort)) h in
        let small : var < 32 = ltb-true var 32 (and-left (nat_lt var 32) (is_sort agent sort) fit) in
        let same : var ≡ n = eqb-true var n (and-left (var == n) (is_written_cond agent c.0 (n + 1)) w) in
        let less : n < 32 = omega (arith, same, small) in
        let longer : n + 1 ≡ length (within (variable stem var) sort scope) = omega (arith, long) in
        let r = c.1 (fits.bound bound var sort) (within (variable stem var) sort scope) (n + 1) longer (deeper var sort same less)
        (and-right (binder_fits agent var sort) (cond_fits agent c.0 (fits.bound bound var sort)) h) (and-right (var == n) (is_written_cond agent c.0 (n + 1)) w) body b in
        record {
          inner = r.draft;
          spells = λ at. bound-spelled var sort binder body r.draft at less (binder-ok binder var sort fit a) r.read;
          is = r.means;
          number = omega (arith, long, same, small);
        }

    some-spelled : (f sign binder body : Form) (var : Text) (sort : ℕ) (d : DraftCond) → parts f ≡ sign ∷ binder ∷ body ∷ [] → word sign ≡ codes "some"
        → (bound_of theory n (place_of f) (map (cond_part theory) (binder ∷ body ∷ []))).outcome ≡ Ok (bound_made (binder_made var sort) d) → (cond_of theory f n).outcome ≡ Ok (draft.ForSome var sort d (place_of f))
    unfolding cond_keyword keyword_cond some_of
    some-spelled f sign binder body var sort d are s h =
        ap (λ (x : Reading DraftCond). x.outcome) (by-word f sign (binder ∷ body ∷ []) n (codes "some") are s)
        ∙ then-ok (bound_of theory n (place_of f) (map (cond_part theory) (binder ∷ body ∷ []))) (λ (x : Bound). gives (draft.ForSome x.binder.var x.binder.sort x.body (place_of f))) (bound_made (binder_made var sort) d) (draft.ForSome var sort d (place_of f)) h refl

    all-spelled : (f sign binder body : Form) (var : Text) (sort : ℕ) (d : DraftCond) → parts f ≡ sign ∷ binder ∷ body ∷ [] → word sign ≡ codes "all"
        → (bound_of theory n (place_of f) (map (cond_part theory) (binder ∷ body ∷ []))).outcome ≡ Ok (bound_made (binder_made var sort) d) → (cond_of theory f n).outcome ≡ Ok (draft.ForAll var sort d (place_of f))
    unfolding cond_keyword keyword_cond all_of
    all-spelled f sign binder body var sort d are s h =
        ap (λ (x : Reading DraftCond). x.outcome) (by-word f sign (binder ∷ body ∷ []) n (codes "all") are s)
        ∙ then-ok (bound_of theory n (place_of f) (map (cond_part theory) (binder ∷ body ∷ []))) (λ (x : Bound). gives (draft.ForAll x.binder.var x.binder.sort x.body (place_of f))) (bound_made (binder_made var sort) d) (draft.ForAll var sort d (place_of f)) h refl

    -- a quantifier behind its word
    bound-by : (text : Text) (made : Text → ℕ → DraftCond → ℕ → DraftCond) (make : ℕ → ℕ → Cond → Cond)
        → ((f sign binder body : Form) (v : Text) (sort : ℕ) (d : DraftCond) → parts f ≡ sign ∷ binder ∷ body ∷ [] → word sign ≡ text
        → (bound_of theory n (place_of f) (map (cond_part theory) (binder ∷ body ∷ []))).outcome ≡ Ok (bound_made (binder_made v sort) d) → (cond_of theory f n).outcome ≡ Ok (made v sort d (place_of f)))
        → ((v : Text) (sort : ℕ) (d : DraftCond) (at : ℕ) (c : Cond) → (cond_in names d (within v sort scope)).outcome ≡ Ok c → (cond_in names (made v sort d at) scope).outcome ≡ Ok (make (variable_no scope) sort c))
        → (var sort : ℕ) (c : AC) (f : Form) → (binder_fits agent var sort && cond_fits agent c.0 (fits.bound bound var sort)) ≡ true → (var == n && is_written_cond agent c.0 (n + 1)) ≡ true
        → Alike f (list (atom text ∷ binder_form agent stem var sort ∷ cond_form agent stem c.0 ∷ [])) → CondRead scope n (make var sort c.0) f
    bound-by text made make spelled meant var sort c f h w a =
        let p = three-of (parts f) (atom text) (binder_form agent stem var sort) (cond_form agent stem c.0) (parts-as f (atom text ∷ binder_form agent stem var sort ∷ cond_form agent stem c.0 ∷ []) a) in
        let b = bound-read var sort c p.second p.third h w p.like_second p.like_third in
        let v = variable stem var in record {
          draft = made v sort b.inner (place_of f);
          read = spelled f p.first p.second p.third v sort b.inner p.are (word-as p.first text p.like_first) (b.spells (place_of f));
          means = meant v sort b.inner (place_of f) c.0 b.is ∙ ap (λ (m : ℕ). Ok (make m sort c.0)) b.number;
        }

    some-means : (v : Text) (sort : ℕ) (d : DraftCond) (at : ℕ) (c : Cond) → (cond_in names d (within v sort scope)).outcome ≡ Ok c → (cond_in names (draft.ForSome v sort d at) scope).outcome ≡ Ok (cond.ForSome (variable_no scope) sort c)
    some-means v sort d at c h =
        means-by (layer.ForSome v sort d at) (draft.ForSome v sort d at) scope (cond.ForSome (variable_no scope) sort c) (draft.rolls-ForSome v sort d at)
        (then-ok (cond_in names d (within v sort scope)) (λ (x : Cond). gives (cond.ForSome (variable_no scope) sort x)) c (cond.ForSome (variable_no scope) sort c) h refl)

    all-means : (v : Text) (sort : ℕ) (d : DraftCond) (at : ℕ) (c : Cond) → (cond_in names d (within v sort scope)).outcome ≡ Ok c → (cond_in names (draft.ForAll v sort d at) scope).outcome ≡ Ok (cond.ForAll (variable_no scope) sort c)
    all-means v sort d at c h =
        means-by (layer.ForAll v sort d at) (draft.ForAll v sort d at) scope (cond.ForAll (variable_no scope) sort c) (draft.rolls-ForAll v sort d at)
        (then-ok (cond_in names d (within v sort scope)) (λ (x : Cond). gives (cond.ForAll (variable_no scope) sort x)) c (cond.ForAll (variable_no scope) sort c) h refl)

    cond-made : (y : Cond-F AC AT)
        → fits.cond_step agent (map-Cond Cond Term (fits.Scope → Bool) (fits.Scope → ℕ → Bool) (cond_fits agent) (term_fits agent) (cond_at y)) bound ≡ true
        → written_cond_step agent (map-Cond Cond Term (ℕ → Bool) Wording (is_written_cond agent) (wording agent) (cond_at y)) n ≡ true
        → (f : Form) → Alike f (form.cond_step agent stem (map-Cond Cond Term Form (ℕ → Form) (cond_form agent stem) (term_form agent stem) (cond_at y))) → CondRead scope n (roll-Cond (cond_at y)) f
    cond-made (Truth b) h w f a = subst (λ (c : Cond). CondRead scope n c f) (sym (cond.rolls-Truth b)) (truth-read b scope n f a)
    cond-made (Is fluent args) h w f a = subst (λ (c : Cond). CondRead scope n c f) (sym (cond.rolls-Is fluent args)) (is-read fluent args f h a)
    cond-made (Equal sort t u) h w f a = subst (λ (c : Cond). CondRead scope n c f) (sym (cond.rolls-Equal sort t.0 u.0)) (equal-read sort t u f h w a)
    cond-made (Less sort t u) h w f a = subst (λ (c : Cond). CondRead scope n c f) (sym (cond.rolls-Less sort t.0 u.0)) (less-read sort t u f h w a)
    cond-made (AtMost sort t u) h w f a = subst (λ (c : Cond). CondRead scope n c f) (sym (cond.rolls-AtMost sort t.0 u.0)) (at-most-read sort t u f h w a)
    cond-made (Not c) h w f a = subst (λ (x : Cond). CondRead scope n x f) (sym (cond.rolls-Not c.0)) (not-read c f h w a)
    cond-made (And cs) h w f a = subst (λ (c : Cond). CondRead scope n c f) (sym (cond.rolls-And (map (λ (e : AC). e.0) cs))) (several-read (codes "and") (λ ds at. draft.And ds at) (λ cs. cond.And cs) and-spelled and-means cs f h w a)
    cond-made (Or cs) h w f a = subst (λ (c : Cond). CondRead scope n c f) (sym (cond.rolls-Or (map (λ (e : AC). e.0) cs))) (several-read (codes "or") (λ ds at. draft.Or ds at) (λ cs. cond.Or cs) or-spelled or-means cs f h w a)
    cond-made (ForSome var sort c) h w f a = subst (λ (x : Cond). CondRead scope n x f) (sym (cond.rolls-ForSome var sort c.0)) (bound-by (codes "some") (λ v s d at. draft.ForSome v s d at) (λ x s c. cond.ForSome x s c) some-spelled some-means var sort c f h w a)
    cond-made (ForAll var sort c) h w f a = subst (λ (x : Cond). CondRead scope n x f) (sym (cond.rolls-ForAll var sort c.0)) (bound-by (codes "all") (λ v s d at. draft.ForAll v s d at) (λ x s c. cond.ForAll x s c) all-spelled all-means var sort c f h w a)

  cond-layer : (y : Cond-F AC AT) → CondReads (roll-Cond (cond_at y))
  cond-layer y bound scope n long scoped h w f a =
      cond-made bound scope n long scoped y
      (sym (ap (λ (g : fits.Scope → Bool). g bound) (fits-cond agent (cond_at y))) ∙ h)
      (sym (ap (λ (g : ℕ → Bool). g n) (written-cond agent (cond_at y))) ∙ w) f
      (a ∙ ap plain (form-cond agent stem (cond_at y)))

  -- a condition that was printed is read back
  pub cond-reads : (c : Cond) → CondReads c
  cond-reads = ind-Cond CondReads TermReads (λ x y is. subst (λ z. CondReads (roll-Cond z)) is (cond-layer y)) (λ x y is. subst (λ z. TermReads (roll-Term z)) is (term-layer y))

pub ruleset laws = (cond-reads)
