-- A term that a draft says is the one that it is taken for, and what it is taken for it says.
use Rattle.std.proofs.Common.{◌≡◌, ◌⊎◌, inl, inr, ℕ, ℤ, Bool, true, false, IsTrue, ◌&&◌, ◌==◌, List, refl, sym, ap, subst, ◌∙◌, Option, Some, None, Ok}
use Rattle.std.specs.Prelude.{not, is_some, slice_get, option_map, option_and_then}
use Rattle.std.specs.Option.{option_map_or}
use Rattle.std.specs.Ordering.{int_eq}
use Rattle.std.proofs.lemmas.Bool.{eqb-true}
use Rattle.std.proofs.lemmas.Bool.Decides.{Decides-int_eq}
use Rattle.golog_tree.specs.declared.agent.Agent.{Agent}
use Rattle.golog_tree.specs.declared.agent.FluentItem.{FluentItem}
use Rattle.golog_tree.specs.declared.agent.SortItem.{SortItem}
use Rattle.golog_tree.specs.declared.agent.SortItem.TheVariants.{Range, Listed}
use Rattle.golog_tree.specs.declared.cond.Arg.{Arg}
use Rattle.golog_tree.specs.declared.cond.Arg.TheVariants.{Const, Var}
use Rattle.golog_tree.specs.declared.cond.Term.{Term}
use Rattle.golog_tree.specs.declared.cond.Term.TheVariants as term
use Rattle.golog_tree.specs.declared.cond.Cond.{Cond}
use Rattle.golog_tree.specs.declared.cond.Cond.TheOpen.{Term-F, Arg as ArgOf, Fluent as FluentOf, Shift as ShiftOf}
use Rattle.golog_tree.specs.declared.cond.Cond.TheViews.{out-Term, roll-Term, roll-out-Term}
use Rattle.golog_tree.specs.declared.cond.Cond.TheFolds.{fold-roll-Term, map-Term}
use Rattle.golog_tree.specs.declared.draft_cond.DraftArg.{DraftArg}
use Rattle.golog_tree.specs.declared.draft_cond.DraftArg.TheVariants.{Word, Number}
use Rattle.golog_tree.specs.declared.draft_cond.DraftTerm.{DraftTerm}
use Rattle.golog_tree.specs.declared.draft_cond.DraftTerm.TheOpen.{DraftTerm-F, Arg as ArgTerm, Fluent, Shift}
use Rattle.golog_tree.specs.declared.draft_cond.DraftTerm.TheViews.{roll-DraftTerm}
use Rattle.golog_tree.specs.declared.draft_cond.DraftTerm.TheFolds.{fold-roll-DraftTerm, ind-DraftTerm, map-DraftTerm}
use Rattle.golog_rows.specs.Reading.{Reading, gives, row, ◌>>=◌}
use Rattle.golog_semantics.specs.Fits as fits
use Rattle.golog_semantics.specs.Fits.{is_range, is_range_item, args_fit, fluent_fits, term_fits}
use Rattle.golog_semantics.specs.Written.{Wording, written_arg, is_amount}
use Rattle.golog_semantics.proofs.Tests.{and_both, and_cases}
use Rattle.golog_draft.specs.Drafts.{fluent_keeps, term_keeps, term_keeps_step}
use Rattle.golog_check.specs.declared.scope.Meant.{Meant}
use Rattle.golog_check.specs.Codes.{SORT_CLASH}
use Rattle.golog_check.specs.DeclaredItems.{Declared}
use Rattle.golog_check.specs.Sorts as sorts
use Rattle.golog_check.specs.Sorts.{place_of_number, number_in, fluent_sort, fluent_sorts}
use Rattle.golog_check.specs.Scope.{Scope, meaning}
use Rattle.golog_check.specs.Terms.{is_other, arg_sort, arg_as, args_in, term_place, term_sort, sort_step, term_as, as_step, term_in}
use Rattle.golog_check.specs.CheckLaws.{HasItems, signature_of}
use Rattle.golog_check.proofs.Readings.{both, past, ok-same}
use Rattle.golog_check.proofs.ArgLaws.{same-number}
use Rattle.golog_check.proofs.TermLaws.{same-range}
use Rattle.golog_check.proofs.Layers.{as-term, fits-term, keeps-term, sort-term, written-term, wording}
use Rattle.golog_refusals.specs.Says.{same_arg, arg_says, args_say, term_says_step, term_says}
use Rattle.golog_refusals.proofs.Taking.{never, past-by, then-by}
use Rattle.golog_refusals.proofs.ArgsSaid.{arg-as-taken, arg-as-said, args-taken, args-said, arity}

-- a draft shows the sort of what it says, or else it is a number, whose sort is one of numbers
pub record Taken (agent : Agent) (sort : ℕ) (shown : Option ℕ) (reading : Reading Term) (t : Term) : Type 0 where
  pub own : is_other shown sort ≡ false
  pub read : reading.outcome ≡ Ok t
  pub shows : (is_some shown ≡ true) ⊎ (((wording agent t).shows_sort ≡ false) × (is_range agent sort ≡ true))

module _ (agent : Agent) (names : Declared) (has : HasItems agent names) where
  number-range : (number : ℤ) (o : Option SortItem) (a : Arg)
      → option_map_or (λ (place : ℕ). same_arg (Const place) a) (option_and_then (place_of_number number) o) false
      ≡ true → option_map_or is_range_item o false ≡ true
  number-range number None a h = absurd (never h)
  number-range number (Some (Range name low high)) a h = refl
  number-range number (Some (Listed name constants)) a h = absurd (never h)

  number-hides : (o : Option ℕ) (a : Arg) → option_map_or (λ (place : ℕ). same_arg (Const place) a) o false ≡ true
      → (written_arg a).shows_sort ≡ false
  number-hides None a h = absurd (never h)
  number-hides (Some place) (Const c) h = refl
  number-hides (Some place) (Var x) h = absurd (never h)

  word-shows : (sort : ℕ) (o : Option Meant) (a : Arg)
      → option_map_or (λ (m : Meant). m.sort == sort && same_arg m.arg a) o false ≡ true
      → is_some (option_map (λ (m : Meant). m.sort) o) ≡ true
  word-shows sort None a h = absurd (never h)
  word-shows sort (Some m) a h = refl

  arg-shows : (scope : Scope) (sort : ℕ) (draft : DraftArg) (a : Arg) → arg_says names scope sort draft a ≡ true
      → (is_some (arg_sort names scope draft) ≡ true)
      ⊎ (((written_arg a).shows_sort ≡ false) × (is_range agent sort ≡ true))
  arg-shows scope sort (Word word at) a h = inl (word-shows sort (meaning names scope word at) a h)
  arg-shows scope sort (Number number at) a h =
      inr (
        number-hides (number_in names sort number) a h,
        sym (same-range agent names has sort)
            ∙ number-range number (slice_get names.sorts sort) a h,
      )

  -- a fluent that is into the sort
  fluent-in : (bound : fits.Scope) (sort : ℕ) (args : List Arg) (o : Option FluentItem)
      → option_map_or (λ (i : FluentItem). i.sort == sort && args_fit agent bound i.args args) o false ≡ true
      → (is_other (option_map (λ (i : FluentItem). i.sort) o) sort ≡ false)
      × (is_some (option_map (λ (i : FluentItem). i.sort) o) ≡ true)
  fluent-in bound sort args None h = absurd (never h)
  fluent-in bound sort args (Some i) h =
      (ap not (and_cases (i.sort == sort) (args_fit agent bound i.args args) h).0, refl)

  pub fluent-of-sort : (bound : fits.Scope) (sort fluent : ℕ) (args : List Arg)
      → fluent_fits agent bound sort fluent args ≡ true
      → (is_other (fluent_sort names fluent) sort ≡ false) × (is_some (fluent_sort names fluent) ≡ true)
  fluent-of-sort bound sort fluent args h =
      fluent-in bound sort args (slice_get names.fluents fluent)
      (sym (ap (λ (items : List FluentItem).
      option_map_or (λ (i : FluentItem). i.sort == sort && args_fit agent bound i.args args)
      (slice_get items fluent) false) has.fluents) ∙ h)

module _ (names : Declared) (scope : Scope) where
  abbrev pub TermSays : Type 0
  TermSays = ℕ → Term → Bool

  says-roll : (l : DraftTerm-F DraftTerm) (sort : ℕ) (t : Term) → term_says names scope (roll-DraftTerm l) sort t
      ≡ term_says_step names scope (map-DraftTerm DraftTerm TermSays (term_says names scope) l) sort (out-Term t)
  says-roll l sort t =
      ap (λ (f : TermSays). f sort t)
      (fold-roll-DraftTerm TermSays (λ layer sort t. term_says_step names scope layer sort (out-Term t)) l)

  module _ (agent : Agent) (has : HasItems agent names) (bound : fits.Scope) where
    abbrev pub Takes : DraftTerm → Type 0
    Takes d = (sort : ℕ) (t : Term) → term_says names scope d sort t ≡ true → term_fits agent t bound sort ≡ true
        → Taken agent sort (term_sort names scope d) (term_as names scope d sort) t

    abbrev Taking : Type 0
    Taking = (d : DraftTerm) × Takes d

    abbrev drafts_of : DraftTerm-F Taking → DraftTerm-F DraftTerm
    drafts_of y = map-DraftTerm Taking DraftTerm (λ d. d.0) y

    arg-layer : (sort : ℕ) (draft : DraftArg) (a : Arg) → arg_says names scope sort draft a ≡ true
        → Taken agent sort (arg_sort names scope draft) (arg_as names scope sort draft >>= λ a. gives (term.Arg a))
        (roll-Term (ArgOf a))
    arg-layer sort draft a h =
        let k = arg-as-taken names scope sort draft a h in
        record {
          own = k.0;
          read =
              then-by (arg_as names scope sort draft) (λ a. gives (term.Arg a)) a k.1 ∙ ap Ok (sym (term.rolls-Arg a));
          shows = arg-word (arg-shows agent names has scope sort draft a h);
        }
      where
        arg-word : (is_some (arg_sort names scope draft) ≡ true)
            ⊎ (((written_arg a).shows_sort ≡ false) × (is_range agent sort ≡ true))
            → (is_some (arg_sort names scope draft) ≡ true)
            ⊎ (((wording agent (roll-Term (ArgOf a))).shows_sort ≡ false) × (is_range agent sort ≡ true))
        arg-word (inl e) = inl e
        arg-word (inr e) = inr (ap (λ (w : Wording). w.shows_sort) (written-term agent (ArgOf a)) ∙ e.0, e.1)

    fluent-layer : (sort fluent item : ℕ) (drafts : List DraftArg) (args : List Arg)
        → (fluent == item && args_say names scope (fluent_sorts names fluent) drafts args) ≡ true
        → fluent_fits agent bound sort item args ≡ true
        → Taken agent sort (fluent_sort names fluent)
        (args_in names scope (fluent_sorts names fluent) drafts >>= λ args. gives (term.Fluent fluent args))
        (roll-Term (FluentOf item args))
    fluent-layer sort fluent item drafts args h fit =
        let k = and_cases (fluent == item) (args_say names scope (fluent_sorts names fluent) drafts args) h in
        let is : fluent ≡ item = eqb-true fluent item k.0 in
        let s = fluent-of-sort agent names has bound sort fluent args
        (subst (λ (f : ℕ). fluent_fits agent bound sort f args ≡ true) (sym is) fit) in
        record {
          own = s.0;
          read =
              then-by (args_in names scope (fluent_sorts names fluent) drafts)
              (λ args. gives (term.Fluent fluent args)) args
              (args-taken names scope (fluent_sorts names fluent) drafts args k.1)
              ∙ ap Ok (ap (λ (f : ℕ). term.Fluent f args) is ∙ sym (term.rolls-Fluent item args));
          shows = inl s.1;
        }

    shift-layer : (sort : ℕ) (d : DraftTerm) (by : ℤ) (at : ℕ) (own : ℕ) (t : Term) (amount : ℤ) → Takes d
        → (own == sort && int_eq by amount && term_says names scope d sort t) ≡ true
        → (own == sort && is_range agent sort && term_fits agent t bound sort) ≡ true
        → Taken agent sort (term_sort names scope d)
        (row (not (sorts.is_range names sort)) SORT_CLASH at
        (term_as names scope d sort >>= λ t. gives (term.Shift sort t by)))
        (roll-Term (ShiftOf own t amount))
    shift-layer sort d by at own t amount takes h fit =
        let k = and_cases (own == sort && int_eq by amount) (term_says names scope d sort t) h in
        let j = and_cases (own == sort) (int_eq by amount) k.0 in
        let f = and_cases (own == sort && is_range agent sort) (term_fits agent t bound sort) fit in
        let g = and_cases (own == sort) (is_range agent sort) f.0 in
        let inner = takes sort t k.1 f.1 in
        let own-is : own ≡ sort = eqb-true own sort j.0 in
        let by-is : by ≡ amount = (Decides-int_eq by amount).0 j.1 in
        record {
          own = inner.own;
          read =
              past-by (not (sorts.is_range names sort)) SORT_CLASH at
              (term_as names scope d sort >>= λ t. gives (term.Shift sort t by))
              (ap not (same-range agent names has sort ∙ g.1))
              ∙ then-by (term_as names scope d sort) (λ t. gives (term.Shift sort t by)) t inner.read
              ∙ ap Ok (ap (λ (s : ℕ). term.Shift s t by) (sym own-is) ∙ ap (λ (n : ℤ). term.Shift own t n) by-is
              ∙ sym (term.rolls-Shift own t amount));
          shows = shift-word inner.shows;
        }
      where
        shift-word : (is_some (term_sort names scope d) ≡ true)
            ⊎ (((wording agent t).shows_sort ≡ false) × (is_range agent sort ≡ true))
            → (is_some (term_sort names scope d) ≡ true)
            ⊎ (((wording agent (roll-Term (ShiftOf own t amount))).shows_sort ≡ false) × (is_range agent sort ≡ true))
        shift-word (inl e) = inl e
        shift-word (inr e) =
            inr (ap (λ (w : Wording). w.shows_sort) (written-term agent (ShiftOf own t amount)) ∙ e.0, e.1)

    abbrev fit_step : Term-F Cond Term → ℕ → Bool
    fit_step k sort =
        fits.term_step agent
        (map-Term Cond Term (fits.Scope → Bool) (fits.Scope → ℕ → Bool) (fits.cond_fits agent) (term_fits agent) k)
        bound sort

    layer : (y : DraftTerm-F Taking) (sort : ℕ) (k : Term-F Cond Term)
        → term_says_step names scope (map-DraftTerm DraftTerm TermSays (term_says names scope) (drafts_of y)) sort k
        ≡ true
        → fit_step k sort ≡ true
        → Taken agent sort
        (sort_step names scope (map-DraftTerm DraftTerm (Option ℕ) (term_sort names scope) (drafts_of y)))
        (as_step names scope (map-DraftTerm DraftTerm (ℕ → Reading Term) (term_as names scope) (drafts_of y)) sort)
        (roll-Term k)
    layer (ArgTerm draft) sort (ArgOf a) h fit = arg-layer sort draft a h
    layer (Fluent fluent drafts at) sort (FluentOf item args) h fit = fluent-layer sort fluent item drafts args h fit
    layer (Shift d by at) sort (ShiftOf own t amount) h fit = shift-layer sort d.0 by at own t amount d.1 h fit
    layer _ sort _ h fit = absurd (never h)

    takes-layer : (y : DraftTerm-F Taking) → Takes (roll-DraftTerm (drafts_of y))
    takes-layer y sort t h fit =
        let l = drafts_of y in
        let k = out-Term t in
        let says : term_says_step names scope (map-DraftTerm DraftTerm TermSays (term_says names scope) l) sort k
        ≡ true = sym (says-roll l sort t) ∙ h in
        let fit_k : fit_step k sort ≡ true =
        sym (ap (λ (f : fits.Scope → ℕ → Bool). f bound sort) (fits-term agent k))
        ∙ ap (λ (u : Term). term_fits agent u bound sort) (roll-out-Term t) ∙ fit in
        let made = layer y sort k says fit_k in
        subst
        (Taken agent sort (term_sort names scope (roll-DraftTerm l)) (term_as names scope (roll-DraftTerm l) sort))
        (roll-out-Term t)
        (subst (λ (r : Reading Term). Taken agent sort (term_sort names scope (roll-DraftTerm l)) r (roll-Term k))
        (sym (ap (λ (f : ℕ → Reading Term). f sort) (as-term names scope l)))
        (subst (λ (shown : Option ℕ). Taken agent sort shown
        (as_step names scope (map-DraftTerm DraftTerm (ℕ → Reading Term) (term_as names scope) l) sort) (roll-Term k))
        (sym (sort-term names scope l)) made))

    pub takes : (d : DraftTerm) → Takes d
    takes = ind-DraftTerm Takes (λ x y is. subst (λ l. Takes (roll-DraftTerm l)) is (takes-layer y))

  -- what a term is taken for, where it takes a sort that is no other than the one that it shows, it says
  abbrev pub Says : DraftTerm → Type 0
  Says d = (sort : ℕ) (t : Term) → term_keeps (signature_of names) d ≡ true
      → is_other (term_sort names scope d) sort ≡ false
      → (term_as names scope d sort).outcome ≡ Ok t → term_says names scope d sort t ≡ true

  abbrev Saying : Type 0
  Saying = (d : DraftTerm) × Says d

  abbrev sayings_of : DraftTerm-F Saying → DraftTerm-F DraftTerm
  sayings_of y = map-DraftTerm Saying DraftTerm (λ d. d.0) y

  -- by the layer of what is made
  by-layer : (holds : Term-F Cond Term → Bool) (l : Term-F Cond Term) (made t : Term) → out-Term made ≡ l
      → made ≡ t → holds l ≡ true → holds (out-Term t) ≡ true
  by-layer holds l made t o e h = subst (λ (x : Term). holds (out-Term x) ≡ true) e (ap holds o ∙ h)

  arg-says : (sort : ℕ) (draft : DraftArg) (t : Term) → is_other (arg_sort names scope draft) sort ≡ false
      → (arg_as names scope sort draft >>= λ a. gives (term.Arg a)).outcome ≡ Ok t
      → term_says_step names scope (ArgTerm draft) sort (out-Term t) ≡ true
  arg-says sort draft t other h =
      let b = both (arg_as names scope sort draft) (λ a. gives (term.Arg a)) t h in
      by-layer (term_says_step names scope (ArgTerm draft) sort) (ArgOf b.value) (term.Arg b.value) t
      (term.outs-Arg b.value) (ok-same (term.Arg b.value) t b.other)
      (arg-as-said names scope sort draft b.value other b.one)

  fluent-says : (sort fluent : ℕ) (drafts : List DraftArg) (at : ℕ) (t : Term)
      → fluent_keeps (signature_of names) fluent drafts ≡ true
      → (args_in names scope (fluent_sorts names fluent) drafts >>= λ args. gives (term.Fluent fluent args)).outcome
      ≡ Ok t
      → term_says_step names scope (Fluent fluent drafts at) sort (out-Term t) ≡ true
  fluent-says sort fluent drafts at t keeps h =
      let b = both (args_in names scope (fluent_sorts names fluent) drafts)
      (λ args. gives (term.Fluent fluent args)) t h in
      by-layer (term_says_step names scope (Fluent fluent drafts at) sort) (FluentOf fluent b.value)
      (term.Fluent fluent b.value) t (term.outs-Fluent fluent b.value) (ok-same (term.Fluent fluent b.value) t b.other)
      (and_both (fluent == fluent) (args_say names scope (fluent_sorts names fluent) drafts b.value)
      (same-number fluent)
      (args-said names scope (fluent_sorts names fluent) drafts b.value (arity names fluent drafts keeps) b.one))

  shift-says : (sort : ℕ) (d : DraftTerm) (by : ℤ) (at : ℕ) (t : Term) → Says d
      → (term_keeps (signature_of names) d && is_amount by) ≡ true → is_other (term_sort names scope d) sort ≡ false
      → (row (not (sorts.is_range names sort)) SORT_CLASH at
      (term_as names scope d sort >>= λ t. gives (term.Shift sort t by))).outcome ≡ Ok t
      → term_says_step names scope (Shift (term_says names scope d) by at) sort (out-Term t) ≡ true
  shift-says sort d by at t says keeps other h =
      let p = past (not (sorts.is_range names sort)) SORT_CLASH at
      (term_as names scope d sort >>= λ t. gives (term.Shift sort t by)) t h in
      let b = both (term_as names scope d sort) (λ t. gives (term.Shift sort t by)) t p.rest in
      let k = and_cases (term_keeps (signature_of names) d) (is_amount by) keeps in
      by-layer (term_says_step names scope (Shift (term_says names scope d) by at) sort)
      (ShiftOf sort b.value by) (term.Shift sort b.value by) t (term.outs-Shift sort b.value by)
      (ok-same (term.Shift sort b.value by) t b.other)
      (and_both (sort == sort && int_eq by by) (term_says names scope d sort b.value)
      (and_both (sort == sort) (int_eq by by) (same-number sort) ((Decides-int_eq by by).1 refl))
      (says sort b.value k.0 other b.one))

  said-layer : (y : DraftTerm-F Saying) (sort : ℕ) (t : Term)
      → term_keeps_step (signature_of names)
      (map-DraftTerm DraftTerm Bool (term_keeps (signature_of names)) (sayings_of y)) ≡ true
      → is_other (sort_step names scope
      (map-DraftTerm DraftTerm (Option ℕ) (term_sort names scope) (sayings_of y))) sort ≡ false
      → (as_step names scope
      (map-DraftTerm DraftTerm (ℕ → Reading Term) (term_as names scope) (sayings_of y)) sort).outcome ≡ Ok t
      → term_says_step names scope (map-DraftTerm DraftTerm TermSays (term_says names scope) (sayings_of y)) sort
      (out-Term t) ≡ true
  said-layer (ArgTerm draft) sort t keeps other h = arg-says sort draft t other h
  said-layer (Fluent fluent drafts at) sort t keeps other h = fluent-says sort fluent drafts at t keeps h
  said-layer (Shift d by at) sort t keeps other h = shift-says sort d.0 by at t d.1 keeps other h

  says-layer : (y : DraftTerm-F Saying) → Says (roll-DraftTerm (sayings_of y))
  says-layer y sort t keeps other h =
      let l = sayings_of y in
      says-roll l sort t
      ∙ said-layer y sort t (sym (keeps-term (signature_of names) l) ∙ keeps)
      (ap (λ (shown : Option ℕ). is_other shown sort) (sym (sort-term names scope l)) ∙ other)
      (ap (λ (f : ℕ → Reading Term). (f sort).outcome) (sym (as-term names scope l)) ∙ h)

  pub says : (d : DraftTerm) → Says d
  says = ind-DraftTerm Says (λ x y is. subst (λ l. Says (roll-DraftTerm l)) is (says-layer y))

-- a term of the sort that the draft says, in a place of the sort
pub term-taken : (agent : Agent) (names : Declared) → HasItems agent names
    → (bound : fits.Scope) (scope : Scope) (draft : DraftTerm) (sort : ℕ) (t : Term)
    → IsTrue (term_says names scope draft sort t) → IsTrue (term_fits agent t bound sort)
    → (term_in names scope sort draft).outcome ≡ Ok t
unfolding term_in
term-taken agent names has bound scope draft sort t h fit =
    let k = takes names scope agent has bound draft sort t h fit in
    past-by (is_other (term_sort names scope draft) sort) SORT_CLASH (term_place draft)
    (term_as names scope draft sort) k.own ∙ k.read

pub term-said : (names : Declared) (scope : Scope) (draft : DraftTerm)
    → IsTrue (term_keeps (signature_of names) draft) → (sort : ℕ) (t : Term)
    → (term_in names scope sort draft).outcome ≡ Ok t → IsTrue (term_says names scope draft sort t)
unfolding term_in
term-said names scope draft keeps sort t h =
    let p = past (is_other (term_sort names scope draft) sort) SORT_CLASH (term_place draft)
    (term_as names scope draft sort) t h in
    says names scope draft sort t keeps p.none p.rest
