-- A condition that a draft says, where it fits and a file can say it, is the one that the draft is taken for.
use Rattle.std.proofs.Common.{◌≡◌, ◌⊎◌, inl, inr, ℕ, ◌+◌, Bool, true, false, IsTrue, ◌&&◌, ◌||◌, ◌==◌, if◌then◌else◌, List, [], ◌∷◌, ◌++◌, map, refl, sym, ap, subst, ◌∙◌, append_assoc, append-nil, Option, Some, None, Ok}
use Rattle.std.specs.Prelude.{not, is_some}
use Rattle.std.specs.List.{list_all}
use Rattle.std.proofs.lemmas.Bool.{eqb-true, eq-eqb}
use Rattle.golog_tree.specs.declared.agent.Agent.{Agent}
use Rattle.golog_tree.specs.declared.cond.Arg.{Arg}
use Rattle.golog_tree.specs.declared.cond.Term.{Term}
use Rattle.golog_tree.specs.declared.cond.Cond.{Cond}
use Rattle.golog_tree.specs.declared.cond.Cond.TheVariants as cond
use Rattle.golog_tree.specs.declared.cond.Cond.TheOpen.{Cond-F, Truth, Is, Equal, Less, AtMost, Not, And, Or, ForSome, ForAll}
use Rattle.golog_tree.specs.declared.cond.Cond.TheViews.{out-Cond, roll-Cond, roll-out-Cond}
use Rattle.golog_tree.specs.declared.cond.Cond.TheFolds.{fold-roll-Cond, map-Cond}
use Rattle.golog_tree.specs.declared.draft_cond.DraftArg.{DraftArg}
use Rattle.golog_tree.specs.declared.draft_cond.DraftTerm.{DraftTerm}
use Rattle.golog_tree.specs.declared.draft_cond.DraftCond.{DraftCond}
use Rattle.golog_tree.specs.declared.draft_cond.DraftCond.TheOpen as draft
use Rattle.golog_tree.specs.declared.draft_cond.DraftCond.TheOpen.{DraftCond-F}
use Rattle.golog_tree.specs.declared.draft_cond.DraftCond.TheViews.{roll-DraftCond}
use Rattle.golog_tree.specs.declared.draft_cond.DraftCond.TheFolds.{fold-roll-DraftCond, ind-DraftCond, map-DraftCond}
use Rattle.golog_rows.specs.Reading.{Reading, gives, row, ◌>>=◌, found, each}
use Rattle.golog_semantics.specs.Fits as fits
use Rattle.golog_semantics.specs.Fits.{bool_sort, is_sort, is_range, fluent_fits, term_fits, cond_fits}
use Rattle.golog_semantics.specs.Written.{Wording, written_sides, written_cond_step, is_written_cond}
use Rattle.golog_semantics.proofs.Tests.{and_cases}
use Rattle.golog_check.specs.declared.terms.Sides.{Sides}
use Rattle.golog_check.specs.Codes.{SORT_CLASH}
use Rattle.golog_check.specs.DeclaredItems.{Declared}
use Rattle.golog_check.specs.Sorts as sorts
use Rattle.golog_check.specs.Sorts.{fluent_sort, fluent_sorts}
use Rattle.golog_check.specs.Scope.{Scope, variable_no, within}
use Rattle.golog_check.specs.Terms.{is_other, args_in, term_place, term_sort, term_as, common, sides_in}
use Rattle.golog_check.specs.Conditions.{InScope, conds_in, is_in, cond_step, cond_in}
use Rattle.golog_check.specs.CheckLaws.{HasItems}
use Rattle.golog_check.proofs.ArgLaws.{no-other}
use Rattle.golog_check.proofs.TermLaws.{same-range}
use Rattle.golog_check.proofs.Layers.{fits-cond, in-cond, written-cond, wording}
use Rattle.golog_refusals.specs.Says.{args_say, term_says, CondSays, conds_say, bound_says, cond_says_step, cond_says}
use Rattle.golog_refusals.proofs.Taking.{never, past-by, then-by}
use Rattle.golog_refusals.proofs.ArgsSaid.{args-taken}
use Rattle.golog_refusals.proofs.TermsSaid.{fluent-of-sort, takes}

-- the sides of a comparison
abbrev pub sides_of : ℕ → Term → Term → Sides
sides_of sort t u = record { sort = sort; one = t; other = u }

-- the sort that one of two terms shows, where each shows it or none
common-taken : (one other : Option ℕ) (sort : ℕ) → is_other one sort ≡ false → is_other other sort ≡ false
    → (is_some one ≡ true) ⊎ (is_some other ≡ true) → common one other ≡ Some sort
common-taken None None sort h k (inl e) = absurd (never e)
common-taken None None sort h k (inr e) = absurd (never e)
common-taken None (Some o) sort h k e = ap Some (no-other o sort k)
common-taken (Some o) None sort h k e = ap Some (no-other o sort h)
common-taken (Some o) (Some p) sort h k e =
    ap (λ (b : Bool). if b then Some o else None) (eq-eqb o p (no-other o sort h ∙ sym (no-other p sort k)))
    ∙ ap Some (no-other o sort h)

-- where neither side of a comparison shows its sort, that is a listed one
none-shows : (a b c : Bool) → a ≡ false → b ≡ false → c ≡ true → ((a || b) || not c) ≡ true → ⊥
none-shows true b c e f g h = never (sym e)
none-shows false true c e f g h = never (sym f)
none-shows false false true e f g h = never h
none-shows false false false e f g h = never g

module _ (names : Declared) where
  pub says-roll : (l : DraftCond-F DraftCond) (scope : Scope) (c : Cond) → cond_says names (roll-DraftCond l) scope c
      ≡ cond_says_step names (map-DraftCond DraftCond CondSays (cond_says names) l) scope (out-Cond c)
  says-roll l scope c =
      ap (λ (f : CondSays). f scope c)
      (fold-roll-DraftCond CondSays (λ layer scope c. cond_says_step names layer scope (out-Cond c)) l)

  abbrev pub one_in : Scope → List Cond → InScope → Reading Cond
  one_in scope before f = f scope

module _ (agent : Agent) (names : Declared) (has : HasItems agent names) where
  abbrev pub Takes : DraftCond → Type 0
  Takes d = (bound : fits.Scope) (scope : Scope) (n : ℕ) (c : Cond) → cond_says names d scope c ≡ true
      → cond_fits agent c bound ≡ true
      → is_written_cond agent c n ≡ true → (cond_in names d scope).outcome ≡ Ok c

  abbrev Taking : Type 0
  Taking = (d : DraftCond) × Takes d

  abbrev drafts_of : DraftCond-F Taking → DraftCond-F DraftCond
  drafts_of y = map-DraftCond Taking DraftCond (λ d. d.0) y

  abbrev all_of : List Taking → List DraftCond
  all_of ds = map (λ d. d.0) ds

  module _ (bound : fits.Scope) (scope : Scope) (n : ℕ) where
    -- one of the sides shows the sort of the comparison
    either-shows : (sort : ℕ) (one other : DraftTerm) (t u : Term)
        → written_sides agent sort (wording agent t) (wording agent u) ≡ true
        → (is_some (term_sort names scope one) ≡ true)
        ⊎ (((wording agent t).shows_sort ≡ false) × (is_range agent sort ≡ true))
        → (is_some (term_sort names scope other) ≡ true)
        ⊎ (((wording agent u).shows_sort ≡ false) × (is_range agent sort ≡ true))
        → (is_some (term_sort names scope one) ≡ true) ⊎ (is_some (term_sort names scope other) ≡ true)
    either-shows sort one other t u written (inl e) k = inl e
    either-shows sort one other t u written (inr e) (inl k) = inr k
    either-shows sort one other t u written (inr e) (inr k) =
        absurd (none-shows (wording agent t).shows_sort (wording agent u).shows_sort (is_range agent sort) e.0 k.0 e.1
        (and_cases ((wording agent t).written && (wording agent u).written)
        (((wording agent t).shows_sort || (wording agent u).shows_sort) || not (is_range agent sort)) written).1)

    sides-taken : (is_order : Bool) (one other : DraftTerm) (sort : ℕ) (t u : Term)
        → (term_says names scope one sort t && term_says names scope other sort u) ≡ true
        → term_fits agent t bound sort ≡ true → term_fits agent u bound sort ≡ true
        → written_sides agent sort (wording agent t) (wording agent u) ≡ true
        → (is_order && not (sorts.is_range names sort)) ≡ false
        → (sides_in names scope is_order one other).outcome ≡ Ok (sides_of sort t u)
    unfolding sides_in
    sides-taken is_order one other sort t u says fit_t fit_u written order =
        let k = and_cases (term_says names scope one sort t) (term_says names scope other sort u) says in
        let a = takes names scope agent has bound one sort t k.0 fit_t in
        let b = takes names scope agent has bound other sort u k.1 fit_u in
        let shown = common-taken (term_sort names scope one) (term_sort names scope other) sort a.own b.own
        (either-shows sort one other t u written a.shows b.shows) in
        then-by (found SORT_CLASH (term_place one) (common (term_sort names scope one) (term_sort names scope other)))
        (λ sort. row (is_order && not (sorts.is_range names sort)) SORT_CLASH (term_place one)
        (term_as names scope one sort >>= λ t. term_as names scope other sort >>= λ u. gives (sides_of sort t u))) sort
        (ap (λ (o : Option ℕ). (found SORT_CLASH (term_place one) o).outcome) shown)
        ∙ past-by (is_order && not (sorts.is_range names sort)) SORT_CLASH (term_place one)
        (term_as names scope one sort >>= λ t. term_as names scope other sort >>= λ u. gives (sides_of sort t u)) order
        ∙ then-by (term_as names scope one sort)
        (λ t. term_as names scope other sort >>= λ u. gives (sides_of sort t u)) t a.read
        ∙ then-by (term_as names scope other sort) (λ u. gives (sides_of sort t u)) u b.read

    -- a comparison, made of its sides
    compared : (is_order : Bool) (make : Sides → Cond) (one other : DraftTerm) (sort : ℕ) (t u : Term) (c : Cond)
        → (term_says names scope one sort t && term_says names scope other sort u) ≡ true
        → term_fits agent t bound sort ≡ true → term_fits agent u bound sort ≡ true
        → written_sides agent sort (wording agent t) (wording agent u) ≡ true
        → (is_order && not (sorts.is_range names sort)) ≡ false
        → make (sides_of sort t u) ≡ c
        → (sides_in names scope is_order one other >>= λ (sides : Sides). gives (make sides)).outcome ≡ Ok c
    compared is_order make one other sort t u c says fit_t fit_u written order is =
        then-by (sides_in names scope is_order one other) (λ (sides : Sides). gives (make sides)) (sides_of sort t u)
        (sides-taken is_order one other sort t u says fit_t fit_u written order) ∙ ap Ok is

    equal-taken : (one other : DraftTerm) (sort : ℕ) (t u : Term)
        → (term_says names scope one sort t && term_says names scope other sort u) ≡ true
        → (is_sort agent sort && term_fits agent t bound sort && term_fits agent u bound sort) ≡ true
        → written_sides agent sort (wording agent t) (wording agent u) ≡ true
        → (sides_in names scope false one other >>= λ (sides : Sides).
        gives (cond.Equal sides.sort sides.one sides.other)).outcome ≡ Ok (roll-Cond (Equal sort t u))
    equal-taken one other sort t u says fit written =
        let f = and_cases (is_sort agent sort && term_fits agent t bound sort) (term_fits agent u bound sort) fit in
        let g = and_cases (is_sort agent sort) (term_fits agent t bound sort) f.0 in
        compared false (λ (sides : Sides). cond.Equal sides.sort sides.one sides.other) one other sort t u
        (roll-Cond (Equal sort t u)) says g.1 f.1 written refl (sym (cond.rolls-Equal sort t u))

    -- an order, which is one of whole numbers
    ordered : (make : Sides → Cond) (one other : DraftTerm) (sort : ℕ) (t u : Term) (c : Cond)
        → (term_says names scope one sort t && term_says names scope other sort u) ≡ true
        → (is_range agent sort && term_fits agent t bound sort && term_fits agent u bound sort) ≡ true
        → written_sides agent sort (wording agent t) (wording agent u) ≡ true
        → make (sides_of sort t u) ≡ c
        → (sides_in names scope true one other >>= λ (sides : Sides). gives (make sides)).outcome ≡ Ok c
    ordered make one other sort t u c says fit written is =
        let f = and_cases (is_range agent sort && term_fits agent t bound sort) (term_fits agent u bound sort) fit in
        let g = and_cases (is_range agent sort) (term_fits agent t bound sort) f.0 in
        compared true make one other sort t u c says g.1 f.1 written (ap not (same-range agent names has sort ∙ g.0)) is

    is-taken : (fluent item : ℕ) (drafts : List DraftArg) (args : List Arg) (at : ℕ)
        → (fluent == item && args_say names scope (fluent_sorts names fluent) drafts args) ≡ true
        → fluent_fits agent bound bool_sort item args ≡ true
        → (is_in names scope fluent drafts at >>= λ args. gives (cond.Is fluent args)).outcome
        ≡ Ok (roll-Cond (Is item args))
    unfolding is_in
    is-taken fluent item drafts args at h fit =
        let k = and_cases (fluent == item) (args_say names scope (fluent_sorts names fluent) drafts args) h in
        let is : fluent ≡ item = eqb-true fluent item k.0 in
        let s = fluent-of-sort agent names has bound bool_sort fluent args
        (subst (λ (f : ℕ). fluent_fits agent bound bool_sort f args ≡ true) (sym is) fit) in
        then-by (is_in names scope fluent drafts at) (λ args. gives (cond.Is fluent args)) args
        (past-by (is_other (fluent_sort names fluent) bool_sort) SORT_CLASH at
        (args_in names scope (fluent_sorts names fluent) drafts) s.0
        ∙ args-taken names scope (fluent_sorts names fluent) drafts args k.1)
        ∙ ap Ok (ap (λ (f : ℕ). cond.Is f args) is ∙ sym (cond.rolls-Is item args))

    not-taken : (d : Taking) (c : Cond) → cond_says names d.0 scope c ≡ true → cond_fits agent c bound ≡ true
        → is_written_cond agent c n ≡ true
        → (cond_in names d.0 scope >>= λ c. gives (cond.Not c)).outcome ≡ Ok (roll-Cond (Not c))
    not-taken d c h fit written =
        then-by (cond_in names d.0 scope) (λ c. gives (cond.Not c)) c (d.1 bound scope n c h fit written)
        ∙ ap Ok (sym (cond.rolls-Not c))

    each-taken : (ds : List Taking) (cs done : List Cond)
        → conds_say scope (map (cond_says names) (all_of ds)) cs ≡ true
        → list_all (λ c. c bound) (map (cond_fits agent) cs) ≡ true
        → list_all (λ c. c n) (map (is_written_cond agent) cs) ≡ true
        → (each (one_in names scope) done (map (cond_in names) (all_of ds))).outcome ≡ Ok (done ++ cs)
    each-taken [] [] done h fit written = ap Ok (sym (append-nil done))
    each-taken [] (c ∷ cs) done h fit written = absurd (never h)
    each-taken (d ∷ ds) [] done h fit written = absurd (never h)
    each-taken (d ∷ ds) (c ∷ cs) done h fit written =
        let k = and_cases (cond_says names d.0 scope c) (conds_say scope (map (cond_says names) (all_of ds)) cs) h in
        let f = and_cases (cond_fits agent c bound) (list_all (λ c. c bound) (map (cond_fits agent) cs)) fit in
        let w = and_cases (is_written_cond agent c n) (list_all (λ c. c n) (map (is_written_cond agent) cs)) written in
        then-by (cond_in names d.0 scope)
        (λ x. each (one_in names scope) (done ++ x ∷ []) (map (cond_in names) (all_of ds))) c
        (d.1 bound scope n c k.0 f.0 w.0)
        ∙ subst
        (λ (xs : List Cond). (each (one_in names scope) (done ++ c ∷ []) (map (cond_in names) (all_of ds))).outcome
        ≡ Ok xs) (append_assoc done (c ∷ []) cs)
        (each-taken ds cs (done ++ c ∷ []) k.1 f.1 w.1)

    all-taken : (make : List Cond → Cond) (ds : List Taking) (cs : List Cond) (c : Cond)
        → conds_say scope (map (cond_says names) (all_of ds)) cs ≡ true
        → list_all (λ c. c bound) (map (cond_fits agent) cs) ≡ true
        → list_all (λ c. c n) (map (is_written_cond agent) cs) ≡ true → make cs ≡ c
        → (conds_in scope (map (cond_in names) (all_of ds)) >>= λ cs. gives (make cs)).outcome ≡ Ok c
    all-taken make ds cs c h fit written is =
        then-by (conds_in scope (map (cond_in names) (all_of ds))) (λ cs. gives (make cs)) cs
        (each-taken ds cs [] h fit written) ∙ ap Ok is

    bound-taken : (make : ℕ → ℕ → Cond → Cond) (word : List ℕ) (sort : ℕ) (d : Taking) (var own : ℕ) (body made : Cond)
        → bound_says scope word sort (cond_says names d.0) var own body ≡ true
        → (fits.binder_fits agent var own && cond_fits agent body (fits.bound bound var own)) ≡ true
        → (var == n && is_written_cond agent body (n + 1)) ≡ true
        → make var own body ≡ made
        → (cond_in names d.0 (within word sort scope) >>= λ c. gives (make (variable_no scope) sort c)).outcome
        ≡ Ok made
    bound-taken make word sort d var own body made h fit written is =
        let k = and_cases (var == variable_no scope && own == sort)
        (cond_says names d.0 (within word sort scope) body) h in
        let j = and_cases (var == variable_no scope) (own == sort) k.0 in
        let f = and_cases (fits.binder_fits agent var own) (cond_fits agent body (fits.bound bound var own)) fit in
        let w = and_cases (var == n) (is_written_cond agent body (n + 1)) written in
        then-by (cond_in names d.0 (within word sort scope)) (λ c. gives (make (variable_no scope) sort c)) body
        (d.1 (fits.bound bound var own) (within word sort scope) (n + 1) body k.1 f.1 w.1)
        ∙ ap Ok (ap (λ (x : ℕ). make x sort body) (sym (eqb-true var (variable_no scope) j.0))
        ∙ ap (λ (s : ℕ). make var s body) (sym (eqb-true own sort j.1)) ∙ is)

    abbrev fit_step : Cond-F Cond Term → Bool
    fit_step k =
        fits.cond_step agent
        (map-Cond Cond Term (fits.Scope → Bool) (fits.Scope → ℕ → Bool) (cond_fits agent) (term_fits agent) k) bound

    abbrev written_step : Cond-F Cond Term → Bool
    written_step k =
        written_cond_step agent (map-Cond Cond Term (ℕ → Bool) Wording (is_written_cond agent) (wording agent) k) n

    layer : (y : DraftCond-F Taking) (k : Cond-F Cond Term)
        → cond_says_step names (map-DraftCond DraftCond CondSays (cond_says names) (drafts_of y)) scope k ≡ true
        → fit_step k ≡ true → written_step k ≡ true
        → (cond_step names (map-DraftCond DraftCond InScope (cond_in names) (drafts_of y)) scope).outcome
        ≡ Ok (roll-Cond k)
    layer (draft.Truth true at) (Truth true) h fit written = ap Ok (sym (cond.rolls-Truth true))
    layer (draft.Truth false at) (Truth false) h fit written = ap Ok (sym (cond.rolls-Truth false))
    layer (draft.Is fluent drafts at) (Is item args) h fit written = is-taken fluent item drafts args at h fit
    layer (draft.Equal one other at) (Equal sort t u) h fit written = equal-taken one other sort t u h fit written
    layer (draft.Less one other at) (Less sort t u) h fit written =
        ordered (λ (sides : Sides). cond.Less sides.sort sides.one sides.other) one other sort t u
        (roll-Cond (Less sort t u)) h fit written (sym (cond.rolls-Less sort t u))
    layer (draft.AtMost one other at) (AtMost sort t u) h fit written =
        ordered (λ (sides : Sides). cond.AtMost sides.sort sides.one sides.other) one other sort t u
        (roll-Cond (AtMost sort t u)) h fit written (sym (cond.rolls-AtMost sort t u))
    layer (draft.Not d at) (Not c) h fit written = not-taken d c h fit written
    layer (draft.And ds at) (And cs) h fit written =
        all-taken cond.And ds cs (roll-Cond (And cs)) h fit written (sym (cond.rolls-And cs))
    layer (draft.Or ds at) (Or cs) h fit written =
        all-taken cond.Or ds cs (roll-Cond (Or cs)) h fit written (sym (cond.rolls-Or cs))
    layer (draft.ForSome word sort d at) (ForSome var own c) h fit written =
        bound-taken cond.ForSome word sort d var own c (roll-Cond (ForSome var own c)) h fit written
        (sym (cond.rolls-ForSome var own c))
    layer (draft.ForAll word sort d at) (ForAll var own c) h fit written =
        bound-taken cond.ForAll word sort d var own c (roll-Cond (ForAll var own c)) h fit written
        (sym (cond.rolls-ForAll var own c))
    layer _ _ h fit written = absurd (never h)

  takes-layer : (y : DraftCond-F Taking) → Takes (roll-DraftCond (drafts_of y))
  takes-layer y bound scope n c h fit written =
      let l = drafts_of y in
      let k = out-Cond c in
      let back = roll-out-Cond c in
      ap (λ (f : InScope). (f scope).outcome) (in-cond names l)
      ∙ layer bound scope n y k (sym (says-roll names l scope c) ∙ h)
      (sym (ap (λ (f : fits.Scope → Bool). f bound) (fits-cond agent k))
      ∙ ap (λ (x : Cond). cond_fits agent x bound) back ∙ fit)
      (sym (ap (λ (f : ℕ → Bool). f n) (written-cond agent k)) ∙ ap (λ (x : Cond). is_written_cond agent x n) back ∙ written)
      ∙ ap Ok back

  conds-taken : (d : DraftCond) → Takes d
  conds-taken = ind-DraftCond Takes (λ x y is. subst (λ l. Takes (roll-DraftCond l)) is (takes-layer y))

-- a condition that the draft says, which fits, and which a file can say within some number of variables
pub cond-taken : (agent : Agent) (names : Declared) → HasItems agent names
    → (draft : DraftCond) (bound : fits.Scope) (scope : Scope) (n : ℕ) (c : Cond)
    → IsTrue (cond_says names draft scope c) → IsTrue (cond_fits agent c bound)
    → IsTrue (is_written_cond agent c n) → (cond_in names draft scope).outcome ≡ Ok c
cond-taken agent names has draft bound scope n c h fit written =
    conds-taken agent names has draft bound scope n c h fit written
