-- Terms that are not refused fit the agent, and can stand in its file.
use Rattle.std.proofs.Common.{◌≡◌, ℕ, zero, suc, ℤ, ◌≤◌, Bool, true, false, ◌&&◌, ◌||◌, ◌==◌, List, [], ◌∷◌, length, map, refl, sym, ap, subst, ◌∙◌, Option, Some, None, Ok}
use Rattle.std.specs.Prelude.{not, is_some, slice_get, option_map}
use Rattle.std.specs.Option.{option_map_or}
use Rattle.std.specs.List.{list_all}
use Rattle.std.proofs.lemmas.Bool.{eqb-true}
use Rattle.std.proofs.lemmas.Option.{slice_get_within}
use Rattle.golog_tree.specs.declared.agent.Agent.{Agent}
use Rattle.golog_tree.specs.declared.agent.FluentItem.{FluentItem}
use Rattle.golog_tree.specs.declared.agent.SortItem.{SortItem}
use Rattle.golog_tree.specs.declared.agent.SortItem.TheVariants.{Range, Listed}
use Rattle.golog_tree.specs.declared.cond.Arg.{Arg}
use Rattle.golog_tree.specs.declared.cond.Arg.TheVariants.{Const, Var}
use Rattle.golog_tree.specs.declared.cond.Term.{Term}
use Rattle.golog_tree.specs.declared.cond.Cond.{Cond}
use Rattle.golog_tree.specs.declared.cond.Term.TheVariants as term
use Rattle.golog_tree.specs.declared.cond.Cond.TheOpen.{Arg as ArgOf, Fluent as FluentOf, Shift as ShiftOf}
use Rattle.golog_tree.specs.declared.cond.Cond.TheFolds.{fold-Term, fold-roll-Term}
use Rattle.golog_tree.specs.declared.draft_cond.DraftArg.{DraftArg}
use Rattle.golog_tree.specs.declared.draft_cond.DraftArg.TheVariants.{Word, Number}
use Rattle.golog_tree.specs.declared.draft_cond.DraftTerm.{DraftTerm}
use Rattle.golog_tree.specs.declared.draft_cond.DraftTerm.TheOpen.{DraftTerm-F, Arg as ArgTerm, Fluent, Shift}
use Rattle.golog_tree.specs.declared.draft_cond.DraftTerm.TheViews.{roll-DraftTerm}
use Rattle.golog_tree.specs.declared.draft_cond.DraftTerm.TheFolds.{fold-roll-DraftTerm, ind-DraftTerm, map-DraftTerm}
use Rattle.golog_rows.specs.Reading.{Reading, gives, row, ◌>>=◌}
use Rattle.golog_semantics.specs.Fits as fits
use Rattle.golog_semantics.specs.Fits.{is_sort, is_range, is_range_item, arg_fits, args_fit, term_fits}
use Rattle.golog_semantics.specs.Written.{Wording, is_amount, written_arg, written_cond_step, written_term_step}
use Rattle.golog_draft.specs.Drafts.{fluent_keeps, term_keeps, term_keeps_step}
use Rattle.golog_check.specs.declared.scope.Meant.{Meant}
use Rattle.golog_check.specs.Codes.{SORT_CLASH, UNBOUND}
use Rattle.golog_check.specs.DeclaredItems.{Declared}
use Rattle.golog_check.specs.Sorts as sorts
use Rattle.golog_check.specs.Sorts.{same, place_of_word, fluent_sort, fluent_sorts}
use Rattle.golog_check.specs.Scope.{Scope, meaning}
use Rattle.golog_check.specs.Terms.{is_other, arg_sort, arg_as, args_in, term_place, term_sort, sort_step, term_as, as_step, term_in}
use Rattle.golog_check.specs.CheckLaws.{HasItems, Binds, signature_of, IsTermOf, TermsFit}
use Rattle.golog_semantics.proofs.Tests.{and_both, and_cases}
use Rattle.golog_check.proofs.Readings.{both, past, found-it, ok-same}
use Rattle.golog_check.proofs.ArgLaws.{some-same, no-other, below, same-number, arg-as-fits, args-fit-in, none-not}
use Rattle.golog_check.proofs.Meanings.{OfConstants, OfVariables, meaning-means, word-means}
use Rattle.golog_check.proofs.Layers.{as-term, fits-term, keeps-term, sort-term, wording}

pub not-false : (a : Bool) → not a ≡ false → a ≡ true
not-false true e = refl
not-false false e = absurd (cc)

-- A term of the sort. Where its draft shows a sort it does too, or the sort is a listed one.
pub record Good (agent : Agent) (bound : fits.Scope) (sort : ℕ) (shown : Option ℕ) (t : Term) : Type 0 where
  pub of_sort : term_fits agent t bound sort ≡ true
  pub written : (wording agent t).written ≡ true
  pub shows : is_some shown ≡ true → ((wording agent t).shows_sort || not (is_range agent sort)) ≡ true
  pub declared : is_some shown ≡ true → is_sort agent sort ≡ true

module _ (agent : Agent) (names : Declared) (has : HasItems agent names) where
  pub same-range : (sort : ℕ) → sorts.is_range names sort ≡ is_range agent sort
  same-range sort = ap (λ items. option_map_or is_range_item (slice_get items sort) false) (sym has.sorts)

  -- a variable, or a constant of a listed sort, and the sort is declared
  pub record IsShown (a : Arg) (sort : ℕ) : Type 0 where
    pub shows : ((written_arg a).shows_sort || not (is_range agent sort)) ≡ true
    pub declared : is_sort agent sort ≡ true

  listed-item : (word : List ℕ) (item : SortItem) (place : ℕ) → place_of_word word item ≡ Some place → is_range_item item ≡ false
  listed-item word (Range name low high) place h = absurd (none-not place h)
  listed-item word (Listed name constants) place h = refl

  there-is : (sort : ℕ) (item : SortItem) → slice_get names.sorts sort ≡ Some item → is_sort agent sort ≡ true
  there-is sort item e = below sort (length agent.sorts) (slice_get_within agent.sorts sort item (ap (λ items. slice_get items sort) has.sorts ∙ e))

  constants-shown : OfConstants IsShown names
  constants-shown word sort item place e k = record {
    shows = ap not (sym (same-range sort) ∙ ap (λ o. option_map_or is_range_item o false) e ∙ listed-item word item place k);
    declared = there-is sort item e;
  }

  vars-shown : (bound : fits.Scope) (scope : Scope) → Binds agent bound scope → OfVariables IsShown scope
  vars-shown bound [] binds = tt
  vars-shown bound (v ∷ outer) binds = (record { shows = refl; declared = binds.0.1 }, vars-shown bound outer binds.1)

  arg-shows : (bound : fits.Scope) (scope : Scope) → Binds agent bound scope → (sort : ℕ) (draft : DraftArg) (a : Arg) → (arg_as names scope sort draft).outcome ≡ Ok a → is_other (arg_sort names scope draft) sort ≡ false
      → is_some (arg_sort names scope draft) ≡ true → IsShown a sort
  arg-shows bound scope binds sort (Word word at) a h other shown = word-means IsShown sort (meaning names scope word at)
      (meaning-means IsShown names constants-shown scope (vars-shown bound scope binds) word at) other a (found-it UNBOUND at (option_map (λ (m : Meant). m.arg) (meaning names scope word at)) a h)
  arg-shows bound scope binds sort (Number number at) a h other shown = absurd (let z : false ≡ true = shown in cc)

  -- a fluent is into a sort that is declared
  fluent-sorted : (items : List FluentItem) → list_all (λ (item : FluentItem). is_sort agent item.sort) items ≡ true → (fluent : ℕ) (item : FluentItem) → slice_get items fluent ≡ Some item → is_sort agent item.sort ≡ true
  fluent-sorted [] h fluent item e = absurd (none-not item e)
  fluent-sorted (i ∷ items) h zero item e = subst (λ (x : FluentItem). is_sort agent x.sort ≡ true) (some-same i item e) (and_cases (is_sort agent i.sort) (list_all (λ (item : FluentItem). is_sort agent item.sort) items) h).0
  fluent-sorted (i ∷ items) h (suc fluent) item e = fluent-sorted items (and_cases (is_sort agent i.sort) (list_all (λ (item : FluentItem). is_sort agent item.sort) items) h).1 fluent item e

  fluent-shown-at : (fluent sort : ℕ) (o : Option FluentItem) → slice_get names.fluents fluent ≡ o → is_other (option_map (λ (i : FluentItem). i.sort) o) sort ≡ false → is_some (option_map (λ (i : FluentItem). i.sort) o) ≡ true → is_sort agent sort ≡ true
  fluent-shown-at fluent sort None e other shown = absurd (let z : false ≡ true = shown in cc)
  fluent-shown-at fluent sort (Some item) e other shown =
      subst (λ s. is_sort agent s ≡ true) (no-other item.sort sort other) (fluent-sorted agent.fluents has.sorted fluent item (ap (λ items. slice_get items fluent) has.fluents ∙ e))

  arg-written : (a : Arg) → (written_arg a).written ≡ true
  arg-written (Var x) = refl
  arg-written (Const c) = refl

  -- the layers of a term
  module _ (bound : fits.Scope) (sort : ℕ) where
    fits-arg : (a : Arg) → term_fits agent (term.Arg a) bound sort ≡ arg_fits agent bound sort a
    fits-arg a = ap (λ t. term_fits agent t bound sort) (sym (term.rolls-Arg a)) ∙ ap (λ f. f bound sort) (fits-term agent (ArgOf a))

    fits-fluent : (fluent : ℕ) (args : List Arg) → term_fits agent (term.Fluent fluent args) bound sort ≡ fits.fluent_fits agent bound sort fluent args
    fits-fluent fluent args = ap (λ t. term_fits agent t bound sort) (sym (term.rolls-Fluent fluent args)) ∙ ap (λ f. f bound sort) (fits-term agent (FluentOf fluent args))

    fits-shift : (own : ℕ) (t : Term) (by : ℤ) → term_fits agent (term.Shift own t by) bound sort ≡ (own == sort && is_range agent sort && term_fits agent t bound sort)
    fits-shift own t by = ap (λ t. term_fits agent t bound sort) (sym (term.rolls-Shift own t by)) ∙ ap (λ f. f bound sort) (fits-term agent (ShiftOf own t by))

  wording-arg : (a : Arg) → wording agent (term.Arg a) ≡ written_arg a
  wording-arg a = ap (wording agent) (sym (term.rolls-Arg a)) ∙ fold-roll-Term (ℕ → Bool) Wording (written_cond_step agent) (written_term_step agent) (ArgOf a)

  wording-fluent : (fluent : ℕ) (args : List Arg) → wording agent (term.Fluent fluent args) ≡ record { written = true; shows_sort = true }
  wording-fluent fluent args = ap (wording agent) (sym (term.rolls-Fluent fluent args)) ∙ fold-roll-Term (ℕ → Bool) Wording (written_cond_step agent) (written_term_step agent) (FluentOf fluent args)

  wording-shift : (own : ℕ) (t : Term) (by : ℤ) → wording agent (term.Shift own t by) ≡ record { written = (wording agent t).written && is_amount by; shows_sort = (wording agent t).shows_sort }
  wording-shift own t by = ap (wording agent) (sym (term.rolls-Shift own t by)) ∙ fold-roll-Term (ℕ → Bool) Wording (written_cond_step agent) (written_term_step agent) (ShiftOf own t by)

  -- a fluent that keeps its number of arguments
  arity : (fluent : ℕ) (args : List DraftArg) (items : List FluentItem) → option_map_or (λ n. n == length args) (slice_get (map (λ (i : FluentItem). length i.args) items) fluent) false ≡ true
      → (o : Option FluentItem) → slice_get items fluent ≡ o → option_map_or (λ (i : FluentItem). length i.args == length args) o false ≡ true
  arity fluent args items h o e = subst (λ z. option_map_or (λ (i : FluentItem). length i.args == length args) z false ≡ true) e (through items fluent h)
    where
      through : (items : List FluentItem) (fluent : ℕ) → option_map_or (λ n. n == length args) (slice_get (map (λ (i : FluentItem). length i.args) items) fluent) false ≡ true
          → option_map_or (λ (i : FluentItem). length i.args == length args) (slice_get items fluent) false ≡ true
      through [] f k = k
      through (i ∷ is) zero k = k
      through (i ∷ is) (suc f) k = through is f k

  module _ (bound : fits.Scope) (scope : Scope) (binds : Binds agent bound scope) (few : length scope ≤ 32) where
    fluent-in : (fluent : ℕ) (drafts : List DraftArg) (sort : ℕ) (args : List Arg) (o : Option FluentItem) → slice_get names.fluents fluent ≡ o
        → option_map_or (λ (i : FluentItem). length i.args == length drafts) o false ≡ true
        → is_other (option_map (λ (i : FluentItem). i.sort) o) sort ≡ false
        → (args_in names scope (option_map_or (λ (i : FluentItem). i.args) o []) drafts).outcome ≡ Ok args
        → option_map_or (λ (i : FluentItem). i.sort == sort && args_fit agent bound i.args args) o false ≡ true
    fluent-in fluent drafts sort args None e keeps other h = absurd (let z : false ≡ true = keeps in cc)
    fluent-in fluent drafts sort args (Some item) e keeps other h =
        and_both (item.sort == sort) (args_fit agent bound item.args args)
        (ap (λ s. s == sort) (no-other item.sort sort other) ∙ same-number sort)
        (args-fit-in agent names has bound scope binds few item.args drafts (sym (eqb-true (length item.args) (length drafts) keeps)) args h)

    pub fluent-fits : (fluent : ℕ) (drafts : List DraftArg) (sort : ℕ) (args : List Arg) → fluent_keeps (signature_of names) fluent drafts ≡ true → is_other (fluent_sort names fluent) sort ≡ false
        → (args_in names scope (fluent_sorts names fluent) drafts).outcome ≡ Ok args → fits.fluent_fits agent bound sort fluent args ≡ true
    fluent-fits fluent drafts sort args keeps other h =
        ap (λ items. option_map_or (λ (i : FluentItem). i.sort == sort && args_fit agent bound i.args args) (slice_get items fluent) false) has.fluents
        ∙ fluent-in fluent drafts sort args (slice_get names.fluents fluent) refl (arity fluent drafts names.fluents keeps (slice_get names.fluents fluent) refl) other h

    abbrev pub Takes : DraftTerm → Type 0
    Takes d = (sort : ℕ) (t : Term) → term_keeps (signature_of names) d ≡ true → is_other (term_sort names scope d) sort ≡ false → (term_as names scope d sort).outcome ≡ Ok t
        → Good agent bound sort (term_sort names scope d) t

    abbrev Taken : Type 0
    Taken = (d : DraftTerm) × Takes d

    abbrev drafts_of : DraftTerm-F Taken → DraftTerm-F DraftTerm
    drafts_of y = map-DraftTerm Taken DraftTerm (λ d. d.0) y

    arg-good : (sort : ℕ) (arg : DraftArg) (t : Term) → is_other (arg_sort names scope arg) sort ≡ false → (arg_as names scope sort arg >>= λ a. gives (term.Arg a)).outcome ≡ Ok t
        → Good agent bound sort (arg_sort names scope arg) t
    arg-good sort arg t other h =
        let b = both (arg_as names scope sort arg) (λ a. gives (term.Arg a)) t h in
        subst (Good agent bound sort (arg_sort names scope arg)) (ok-same (term.Arg b.value) t b.other)
        (record {
          of_sort = fits-arg bound sort b.value ∙ arg-as-fits agent names has bound scope binds few sort arg b.value b.one other;
          written = ap (λ (w : Wording). w.written) (wording-arg b.value) ∙ arg-written b.value;
          shows = λ shown. ap (λ (w : Wording). w.shows_sort || not (is_range agent sort)) (wording-arg b.value) ∙ (arg-shows bound scope binds sort arg b.value b.one other shown).shows;
          declared = λ shown. (arg-shows bound scope binds sort arg b.value b.one other shown).declared;
        })

    fluent-good : (sort fluent : ℕ) (args : List DraftArg) (t : Term) → fluent_keeps (signature_of names) fluent args ≡ true → is_other (fluent_sort names fluent) sort ≡ false
        → (args_in names scope (fluent_sorts names fluent) args >>= λ args. gives (term.Fluent fluent args)).outcome ≡ Ok t → Good agent bound sort (fluent_sort names fluent) t
    fluent-good sort fluent args t keeps other h =
        let b = both (args_in names scope (fluent_sorts names fluent) args) (λ args. gives (term.Fluent fluent args)) t h in
        subst (Good agent bound sort (fluent_sort names fluent)) (ok-same (term.Fluent fluent b.value) t b.other)
        (record {
          of_sort = fits-fluent bound sort fluent b.value ∙ fluent-fits fluent args sort b.value keeps other b.one;
          written = ap (λ (w : Wording). w.written) (wording-fluent fluent b.value);
          shows = λ shown. ap (λ (w : Wording). w.shows_sort || not (is_range agent sort)) (wording-fluent fluent b.value);
          declared = λ shown. fluent-shown-at fluent sort (slice_get names.fluents fluent) refl other shown;
        })

    shift-good : (sort : ℕ) (d : DraftTerm) (by : ℤ) (at : ℕ) (t : Term) → Takes d → (term_keeps (signature_of names) d && is_amount by) ≡ true → is_other (term_sort names scope d) sort ≡ false
        → (row (not (sorts.is_range names sort)) SORT_CLASH at (term_as names scope d sort >>= λ t. gives (term.Shift sort t by))).outcome ≡ Ok t → Good agent bound sort (term_sort names scope d) t
    shift-good sort d by at t takes keeps other h =
        let p = past (not (sorts.is_range names sort)) SORT_CLASH at (term_as names scope d sort >>= λ t. gives (term.Shift sort t by)) t h in
        let b = both (term_as names scope d sort) (λ t. gives (term.Shift sort t by)) t p.rest in
        let k = and_cases (term_keeps (signature_of names) d) (is_amount by) keeps in
        let range : is_range agent sort ≡ true = sym (same-range sort) ∙ not-false (sorts.is_range names sort) p.none in
        let g = takes sort b.value k.0 other b.one in
        subst (Good agent bound sort (term_sort names scope d)) (ok-same (term.Shift sort b.value by) t b.other)
        (record {
          of_sort = fits-shift bound sort sort b.value by ∙ and_both (sort == sort && is_range agent sort) (term_fits agent b.value bound sort) (and_both (sort == sort) (is_range agent sort) (same-number sort) range) g.of_sort;
          written = ap (λ (w : Wording). w.written) (wording-shift sort b.value by) ∙ and_both (wording agent b.value).written (is_amount by) g.written k.1;
          shows = λ shown. ap (λ (w : Wording). w.shows_sort || not (is_range agent sort)) (wording-shift sort b.value by) ∙ g.shows shown;
          declared = g.declared;
        })

    layer : (y : DraftTerm-F Taken) → (sort : ℕ) (t : Term) → term_keeps_step (signature_of names) (map-DraftTerm DraftTerm Bool (term_keeps (signature_of names)) (drafts_of y)) ≡ true
        → is_other (sort_step names scope (map-DraftTerm DraftTerm (Option ℕ) (term_sort names scope) (drafts_of y))) sort ≡ false
        → (as_step names scope (map-DraftTerm DraftTerm (ℕ → Reading Term) (term_as names scope) (drafts_of y)) sort).outcome ≡ Ok t
        → Good agent bound sort (sort_step names scope (map-DraftTerm DraftTerm (Option ℕ) (term_sort names scope) (drafts_of y))) t
    layer (ArgTerm arg) sort t keeps other h = arg-good sort arg t other h
    layer (Fluent fluent args at) sort t keeps other h = fluent-good sort fluent args t keeps other h
    layer (Shift d by at) sort t keeps other h = shift-good sort d.0 by at t d.1 keeps other h

    takes-layer : (y : DraftTerm-F Taken) → Takes (roll-DraftTerm (drafts_of y))
    takes-layer y sort t keeps other h =
        let l = drafts_of y in
        subst (λ shown. Good agent bound sort shown t) (sym (sort-term names scope l))
        (layer y sort t (sym (keeps-term (signature_of names) l) ∙ keeps) (ap (λ shown. is_other shown sort) (sym (sort-term names scope l)) ∙ other)
        (ap (λ (f : ℕ → Reading Term). (f sort).outcome) (sym (as-term names scope l)) ∙ h))

    pub takes : (d : DraftTerm) → Takes d
    takes = ind-DraftTerm Takes (λ x y is. subst (λ l. Takes (roll-DraftTerm l)) is (takes-layer y))

    pub in-place : (d : DraftTerm) (sort : ℕ) (t : Term) → term_keeps (signature_of names) d ≡ true → (term_in names scope sort d).outcome ≡ Ok t → IsTermOf agent bound sort t
    unfolding term_in
    in-place d sort t keeps h =
        let p = past (is_other (term_sort names scope d) sort) SORT_CLASH (term_place d) (term_as names scope d sort) t h in
        let g = takes d sort t keeps p.none p.rest in
        record { fits = g.of_sort; written = g.written }

pub terms-fit : TermsFit
terms-fit agent names has bound scope binds few draft keeps sort term h = in-place agent names has bound scope binds few draft sort term keeps h
