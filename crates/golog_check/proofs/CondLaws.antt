-- Conditions that are not refused fit the agent, and can stand in its file.
use Rattle.std.proofs.Common.{◌≡◌, ◌⊎◌, inl, inr, ℕ, ◌+◌, ◌<◌, ◌≤◌, Bool, true, false, ◌&&◌, ◌||◌, ◌==◌, if◌then◌else◌, List, [], ◌∷◌, ◌++◌, length, map, refl, sym, ap, subst, ◌∙◌, Option, Some, None, Ok, arith}
use Rattle.std.specs.Prelude.{not, nat_lt, is_some}
use Rattle.std.specs.List.{list_all}
use Rattle.std.proofs.lemmas.Bool.{eqb-true, ltb-true}
use Rattle.golog_tree.specs.declared.agent.Agent.{Agent}
use Rattle.golog_tree.specs.declared.agent.SortItem.{SortItem}
use Rattle.golog_tree.specs.declared.cond.Term.{Term}
use Rattle.golog_tree.specs.declared.cond.Cond.{Cond}
use Rattle.golog_tree.specs.declared.cond.Cond.TheVariants as cond
use Rattle.golog_tree.specs.declared.cond.Cond.TheOpen.{Cond-F, Truth, Is, Equal, Less, AtMost, Not, And, Or, ForSome, ForAll}
use Rattle.golog_tree.specs.declared.cond.Cond.TheViews.{roll-Cond}
use Rattle.golog_tree.specs.declared.cond.Cond.TheFolds.{fold-roll-Cond, map-Cond}
use Rattle.golog_tree.specs.declared.draft_cond.DraftArg.{DraftArg}
use Rattle.golog_tree.specs.declared.draft_cond.DraftTerm.{DraftTerm}
use Rattle.golog_tree.specs.declared.draft_cond.DraftCond.{DraftCond}
use Rattle.golog_tree.specs.declared.draft_cond.DraftCond.TheOpen as draft
use Rattle.golog_tree.specs.declared.draft_cond.DraftCond.TheOpen.{DraftCond-F}
use Rattle.golog_tree.specs.declared.draft_cond.DraftCond.TheViews.{roll-DraftCond}
use Rattle.golog_tree.specs.declared.draft_cond.DraftCond.TheFolds.{fold-roll-DraftCond, ind-DraftCond, map-DraftCond}
use Rattle.golog_rows.specs.Reading.{Reading, gives, row, ◌>>=◌, found, each}
use Rattle.golog_semantics.specs.Fits as fits
use Rattle.golog_semantics.specs.Fits.{bool_sort, is_sort, is_range, cond_fits, term_fits}
use Rattle.golog_semantics.specs.Written.{Wording, written_sides, written_cond_step, is_written_cond}
use Rattle.golog_draft.specs.Drafts.{fluent_keeps, term_keeps, binder_keeps, cond_keeps, cond_keeps_step}
use Rattle.golog_semantics.proofs.Tests.{and_both, and_cases}
use Rattle.golog_check.specs.declared.terms.Sides.{Sides}
use Rattle.golog_check.specs.Codes.{SORT_CLASH}
use Rattle.golog_check.specs.DeclaredItems.{Declared}
use Rattle.golog_check.specs.Sorts as sorts
use Rattle.golog_check.specs.Sorts.{fluent_sort, fluent_sorts}
use Rattle.golog_check.specs.Scope.{Scope, variable_no, within}
use Rattle.golog_check.specs.Terms.{is_other, args_in, term_place, term_sort, term_as, common, sides_in}
use Rattle.golog_check.specs.Conditions.{InScope, conds_in, is_in, cond_step, cond_in}
use Rattle.golog_check.specs.CheckLaws.{HasItems, Binds, signature_of, IsCondOf, CondsFit}
use Rattle.golog_check.proofs.Readings.{both, past, found-it, ok-same}
use Rattle.golog_check.proofs.ArgLaws.{some-same, none-not, same-number}
use Rattle.golog_check.proofs.TermLaws.{Good, takes, fluent-fits, same-range, not-false}
use Rattle.golog_check.proofs.Layers.{fits-cond, in-cond, keeps-cond, written-cond, wording}

-- the sort that two terms show, which is no other than that of each
record Common (one other : Option ℕ) (sort : ℕ) : Type 0 where
  first : is_other one sort ≡ false
  second : is_other other sort ≡ false
  shown : (is_some one ≡ true) ⊎ (is_some other ≡ true)

pub own-no-other : (sort : ℕ) → is_other (Some sort) sort ≡ false
own-no-other sort = ap not (same-number sort)

common-one : (one other sort : ℕ) (b : Bool) → (one == other) ≡ b → (if b then Some one else None) ≡ Some sort → Common (Some one) (Some other) sort
common-one one other sort true e h =
    let is : one ≡ sort = some-same one sort h in
    let too : other ≡ sort = sym (eqb-true one other e) ∙ is in
    record { first = subst (λ s. is_other (Some s) sort ≡ false) (sym is) (own-no-other sort); second = subst (λ s. is_other (Some s) sort ≡ false) (sym too) (own-no-other sort); shown = inl refl }
common-one one other sort false e h = absurd (none-not sort h)

common-is : (one other : Option ℕ) (sort : ℕ) → common one other ≡ Some sort → Common one other sort
common-is None None sort h = absurd (none-not sort h)
common-is None (Some other) sort h = record { first = refl; second = subst (λ s. is_other (Some s) sort ≡ false) (sym (some-same other sort h)) (own-no-other sort); shown = inr refl }
common-is (Some one) None sort h = record { first = subst (λ s. is_other (Some s) sort ≡ false) (sym (some-same one sort h)) (own-no-other sort); second = refl; shown = inl refl }
common-is (Some one) (Some other) sort h = common-one one other sort (one == other) refl h

module _ (agent : Agent) where
  -- a condition by its layer
  made : (l : Cond-F Cond Term) (c : Cond) → roll-Cond l ≡ c → (bound : fits.Scope) (n : ℕ)
      → fits.cond_step agent (map-Cond Cond Term (fits.Scope → Bool) (fits.Scope → ℕ → Bool) (cond_fits agent) (term_fits agent) l) bound ≡ true
      → written_cond_step agent (map-Cond Cond Term (ℕ → Bool) Wording (is_written_cond agent) (wording agent) l) n ≡ true
      → IsCondOf agent bound n c
  made l c e bound n f w = subst (IsCondOf agent bound n) e (record { fits = ap (λ g. g bound) (fits-cond agent l) ∙ f; written = ap (λ g. g n) (written-cond agent l) ∙ w })

  apart : (x y : ℕ) → x < y → (x == y) ≡ false
  apart x y h = go (x == y) refl
    where
      go : (b : Bool) → (x == y) ≡ b → (x == y) ≡ false
      go true e = absurd (let z : x ≡ y = eqb-true x y e in omega (arith, h, z))
      go false e = e

  -- one more variable is bound, and those outside stay
  binds-less : (bound : fits.Scope) (sort n : ℕ) (scope : Scope) → length scope ≤ n → Binds agent bound scope → Binds agent (fits.bound bound n sort) scope
  binds-less bound sort n [] few binds = tt
  binds-less bound sort n (v ∷ outer) few binds =
      ((ap (λ b. if b then Some sort else bound (length outer)) (apart (length outer) n (omega (arith, few))) ∙ binds.0.0, binds.0.1), binds-less bound sort n outer (omega (arith, few)) binds.1)

  pub binds-more : (bound : fits.Scope) (word : List ℕ) (sort : ℕ) (scope : Scope) → is_sort agent sort ≡ true → Binds agent bound scope → Binds agent (fits.bound bound (length scope) sort) (within word sort scope)
  binds-more bound word sort scope declared binds =
      ((ap (λ b. if b then Some sort else bound (length scope)) (same-number (length scope)), declared), binds-less bound sort (length scope) scope (omega arith) binds)

module _ (agent : Agent) (names : Declared) (has : HasItems agent names) where
  abbrev pub Kept : DraftCond → Type 0
  Kept d = (bound : fits.Scope) (scope : Scope) → Binds agent bound scope → length scope ≤ 32 → cond_keeps (signature_of names) d (length scope) ≡ true → (c : Cond) → (cond_in names d scope).outcome ≡ Ok c → IsCondOf agent bound (length scope) c

  abbrev Keep : Type 0
  Keep = (d : DraftCond) × Kept d

  abbrev drafts_of : DraftCond-F Keep → DraftCond-F DraftCond
  drafts_of y = map-DraftCond Keep DraftCond (λ d. d.0) y

  declared-sort : (sort : ℕ) → nat_lt sort (length names.sorts) ≡ true → is_sort agent sort ≡ true
  declared-sort sort h = ap (λ (items : List SortItem). nat_lt sort (length items)) has.sorts ∙ h

  module _ (bound : fits.Scope) (scope : Scope) (binds : Binds agent bound scope) (few : length scope ≤ 32) where
    -- both sides of a comparison fit its sort
    record SidesFit (is_order : Bool) (sides : Sides) : Type 0 where
      one : term_fits agent sides.one bound sides.sort ≡ true
      other : term_fits agent sides.other bound sides.sort ≡ true
      written : written_sides agent sides.sort (wording agent sides.one) (wording agent sides.other) ≡ true
      ordered : (is_order && not (sorts.is_range names sides.sort)) ≡ false
      declared : is_sort agent sides.sort ≡ true

    shown-one : (a b c : Bool) → (a || c) ≡ true → ((a || b) || c) ≡ true
    shown-one true b c h = refl
    shown-one false true c h = refl
    shown-one false false c h = h

    shown-other : (a b c : Bool) → (b || c) ≡ true → ((a || b) || c) ≡ true
    shown-other true b c h = refl
    shown-other false b c h = h

    either-shows : (sort : ℕ) (one other : DraftTerm) (t u : Term) → Good agent bound sort (term_sort names scope one) t → Good agent bound sort (term_sort names scope other) u
        → (is_some (term_sort names scope one) ≡ true) ⊎ (is_some (term_sort names scope other) ≡ true)
        → (((wording agent t).shows_sort || (wording agent u).shows_sort) || not (is_range agent sort)) ≡ true
    either-shows sort one other t u g k (inl h) = shown-one (wording agent t).shows_sort (wording agent u).shows_sort (not (is_range agent sort)) (g.shows h)
    either-shows sort one other t u g k (inr h) = shown-other (wording agent t).shows_sort (wording agent u).shows_sort (not (is_range agent sort)) (k.shows h)

    either-declares : (sort : ℕ) (one other : DraftTerm) (t u : Term) → Good agent bound sort (term_sort names scope one) t → Good agent bound sort (term_sort names scope other) u
        → (is_some (term_sort names scope one) ≡ true) ⊎ (is_some (term_sort names scope other) ≡ true) → is_sort agent sort ≡ true
    either-declares sort one other t u g k (inl h) = g.declared h
    either-declares sort one other t u g k (inr h) = k.declared h

    sides-fit : (is_order : Bool) (one other : DraftTerm) (sides : Sides) → (term_keeps (signature_of names) one && term_keeps (signature_of names) other) ≡ true
        → (sides_in names scope is_order one other).outcome ≡ Ok sides → SidesFit is_order sides
    unfolding sides_in
    sides-fit is_order one other sides keeps h =
        let k = and_cases (term_keeps (signature_of names) one) (term_keeps (signature_of names) other) keeps in
        let a = both (found SORT_CLASH (term_place one) (common (term_sort names scope one) (term_sort names scope other)))
        (λ sort. row (is_order && not (sorts.is_range names sort)) SORT_CLASH (term_place one) (term_as names scope one sort >>= λ t. term_as names scope other sort >>= λ u. gives (record { sort = sort; one = t; other = u }))) sides h in
        let sort = a.value in
        let c = common-is (term_sort names scope one) (term_sort names scope other) sort (found-it SORT_CLASH (term_place one) (common (term_sort names scope one) (term_sort names scope other)) sort a.one) in
        let p = past (is_order && not (sorts.is_range names sort)) SORT_CLASH (term_place one) (term_as names scope one sort >>= λ t. term_as names scope other sort >>= λ u. gives (record { sort = sort; one = t; other = u })) sides a.other in
        let b = both (term_as names scope one sort) (λ t. term_as names scope other sort >>= λ u. gives (record { sort = sort; one = t; other = u })) sides p.rest in
        let d = both (term_as names scope other sort) (λ u. gives (record { sort = sort; one = b.value; other = u })) sides b.other in
        let g = takes agent names has bound scope binds few one sort b.value k.0 c.first b.one in
        let j = takes agent names has bound scope binds few other sort d.value k.1 c.second d.one in
        subst (SidesFit is_order) (ok-same (record { sort = sort; one = b.value; other = d.value }) sides d.other)
        (record {
          one = g.of_sort;
          other = j.of_sort;
          written =
              and_both ((wording agent b.value).written && (wording agent d.value).written) (((wording agent b.value).shows_sort || (wording agent d.value).shows_sort) || not (is_range agent sort))
              (and_both (wording agent b.value).written (wording agent d.value).written g.written j.written)
              (either-shows sort one other b.value d.value g j c.shown);
          ordered = p.none;
          declared = either-declares sort one other b.value d.value g j c.shown;
        })

    equal-made : (sides : Sides) → SidesFit false sides → IsCondOf agent bound (length scope) (cond.Equal sides.sort sides.one sides.other)
    equal-made sides s =
        made agent (Equal sides.sort sides.one sides.other) (cond.Equal sides.sort sides.one sides.other) (cond.rolls-Equal sides.sort sides.one sides.other) bound (length scope)
        (and_both (is_sort agent sides.sort && term_fits agent sides.one bound sides.sort) (term_fits agent sides.other bound sides.sort) (and_both (is_sort agent sides.sort) (term_fits agent sides.one bound sides.sort) s.declared s.one) s.other)
        s.written

    in-order : (sides : Sides) → SidesFit true sides → (is_range agent sides.sort && term_fits agent sides.one bound sides.sort && term_fits agent sides.other bound sides.sort) ≡ true
    in-order sides s =
        let range : is_range agent sides.sort ≡ true = sym (same-range agent names has sides.sort) ∙ not-false (sorts.is_range names sides.sort) s.ordered in
        and_both (is_range agent sides.sort && term_fits agent sides.one bound sides.sort) (term_fits agent sides.other bound sides.sort) (and_both (is_range agent sides.sort) (term_fits agent sides.one bound sides.sort) range s.one) s.other

    less-made : (sides : Sides) → SidesFit true sides → IsCondOf agent bound (length scope) (cond.Less sides.sort sides.one sides.other)
    less-made sides s =
        made agent (Less sides.sort sides.one sides.other) (cond.Less sides.sort sides.one sides.other) (cond.rolls-Less sides.sort sides.one sides.other) bound (length scope) (in-order sides s) s.written

    at-most-made : (sides : Sides) → SidesFit true sides → IsCondOf agent bound (length scope) (cond.AtMost sides.sort sides.one sides.other)
    at-most-made sides s =
        made agent (AtMost sides.sort sides.one sides.other) (cond.AtMost sides.sort sides.one sides.other) (cond.rolls-AtMost sides.sort sides.one sides.other) bound (length scope) (in-order sides s) s.written

    -- a comparison, made of its sides
    compared : (is_order : Bool) (make : Sides → Cond) → ((sides : Sides) → SidesFit is_order sides → IsCondOf agent bound (length scope) (make sides)) → (one other : DraftTerm) (c : Cond)
        → (term_keeps (signature_of names) one && term_keeps (signature_of names) other) ≡ true
        → (sides_in names scope is_order one other >>= λ (sides : Sides). gives (make sides)).outcome ≡ Ok c → IsCondOf agent bound (length scope) c
    compared is_order make fit one other c keeps h =
        let b = both (sides_in names scope is_order one other) (λ (sides : Sides). gives (make sides)) c h in
        subst (IsCondOf agent bound (length scope)) (ok-same (make b.value) c b.other) (fit b.value (sides-fit is_order one other b.value keeps b.one))

    is-made : (fluent : ℕ) (args : List DraftArg) (at : ℕ) (c : Cond) → fluent_keeps (signature_of names) fluent args ≡ true → (is_in names scope fluent args at >>= λ args. gives (cond.Is fluent args)).outcome ≡ Ok c
        → IsCondOf agent bound (length scope) c
    unfolding is_in
    is-made fluent args at c keeps h =
        let b = both (is_in names scope fluent args at) (λ args. gives (cond.Is fluent args)) c h in
        let p = past (is_other (fluent_sort names fluent) bool_sort) SORT_CLASH at (args_in names scope (fluent_sorts names fluent) args) b.value b.one in
        subst (IsCondOf agent bound (length scope)) (ok-same (cond.Is fluent b.value) c b.other)
        (made agent (Is fluent b.value) (cond.Is fluent b.value) (cond.rolls-Is fluent b.value) bound (length scope)
        (fluent-fits agent names has bound scope binds few fluent args bool_sort b.value keeps p.none p.rest) refl)

    not-made : (d : Keep) (c : Cond) → cond_keeps (signature_of names) d.0 (length scope) ≡ true → (cond_in names d.0 scope >>= λ c. gives (cond.Not c)).outcome ≡ Ok c → IsCondOf agent bound (length scope) c
    not-made d c keeps h =
        let b = both (cond_in names d.0 scope) (λ c. gives (cond.Not c)) c h in
        let k = d.1 bound scope binds few keeps b.value b.one in
        subst (IsCondOf agent bound (length scope)) (ok-same (cond.Not b.value) c b.other)
        (made agent (Not b.value) (cond.Not b.value) (cond.rolls-Not b.value) bound (length scope) k.fits k.written)

    -- conditions, one after another
    record Listed (cs : List Cond) : Type 0 where
      fit : list_all (λ c. c bound) (map (cond_fits agent) cs) ≡ true
      written : list_all (λ c. c (length scope)) (map (is_written_cond agent) cs) ≡ true

    listed-more : (done : List Cond) (c : Cond) → Listed done → IsCondOf agent bound (length scope) c → Listed (done ++ c ∷ [])
    listed-more done c l k = record { fit = more (cond_fits agent) (λ g. g bound) done l.fit k.fits; written = more (is_written_cond agent) (λ g. g (length scope)) done l.written k.written }
      where
        more : {B : Type 0} (f : Cond → B) (g : B → Bool) (done : List Cond) → list_all g (map f done) ≡ true → g (f c) ≡ true → list_all g (map f (done ++ c ∷ [])) ≡ true
        more f g [] h k = and_both (g (f c)) true k refl
        more f g (d ∷ done) h k = let z = and_cases (g (f d)) (list_all g (map f done)) h in and_both (g (f d)) (list_all g (map f (done ++ c ∷ []))) z.0 (more f g done z.1 k)

    abbrev one_in : List Cond → InScope → Reading Cond
    one_in before f = f scope

    each-listed : (ds : List Keep) (done result : List Cond) → list_all (λ c. c (length scope)) (map (cond_keeps (signature_of names)) (map (λ d. d.0) ds)) ≡ true → Listed done
        → (each one_in done (map (cond_in names) (map (λ d. d.0) ds))).outcome ≡ Ok result → Listed result
    each-listed [] done result keeps l h = subst Listed (ok-same done result h) l
    each-listed (d ∷ ds) done result keeps l h =
        let b = both (cond_in names d.0 scope) (λ x. each one_in (done ++ x ∷ []) (map (cond_in names) (map (λ d. d.0) ds))) result h in
        let k = and_cases (cond_keeps (signature_of names) d.0 (length scope)) (list_all (λ c. c (length scope)) (map (cond_keeps (signature_of names)) (map (λ d. d.0) ds))) keeps in
        each-listed ds (done ++ b.value ∷ []) result k.1 (listed-more done b.value l (d.1 bound scope binds few k.0 b.value b.one)) b.other

    all-made : (make : List Cond → Cond) → ((cs : List Cond) → Listed cs → IsCondOf agent bound (length scope) (make cs)) → (ds : List Keep) (c : Cond)
        → list_all (λ c. c (length scope)) (map (cond_keeps (signature_of names)) (map (λ d. d.0) ds)) ≡ true
        → (conds_in scope (map (cond_in names) (map (λ d. d.0) ds)) >>= λ cs. gives (make cs)).outcome ≡ Ok c → IsCondOf agent bound (length scope) c
    all-made make fit ds c keeps h =
        let b = both (conds_in scope (map (cond_in names) (map (λ d. d.0) ds))) (λ cs. gives (make cs)) c h in
        subst (IsCondOf agent bound (length scope)) (ok-same (make b.value) c b.other)
        (fit b.value (each-listed ds [] b.value keeps (record { fit = refl; written = refl }) b.one))

    and-made : (cs : List Cond) → Listed cs → IsCondOf agent bound (length scope) (cond.And cs)
    and-made cs l = made agent (And cs) (cond.And cs) (cond.rolls-And cs) bound (length scope) l.fit l.written

    or-made : (cs : List Cond) → Listed cs → IsCondOf agent bound (length scope) (cond.Or cs)
    or-made cs l = made agent (Or cs) (cond.Or cs) (cond.rolls-Or cs) bound (length scope) l.fit l.written

    -- the body of a binder
    record Body (sort : ℕ) (c : Cond) : Type 0 where
      binder : fits.binder_fits agent (length scope) sort ≡ true
      fit : cond_fits agent c (fits.bound bound (length scope) sort) ≡ true
      written : is_written_cond agent c (length scope + 1) ≡ true

    body : (word : List ℕ) (sort : ℕ) (d : Keep) (c : Cond) → (binder_keeps (signature_of names) (length scope) sort && cond_keeps (signature_of names) d.0 (length scope + 1)) ≡ true
        → (cond_in names d.0 (within word sort scope)).outcome ≡ Ok c → Body sort c
    body word sort d c keeps h =
        let k = and_cases (binder_keeps (signature_of names) (length scope) sort) (cond_keeps (signature_of names) d.0 (length scope + 1)) keeps in
        let j = and_cases (nat_lt (length scope) 32) (nat_lt sort (length names.sorts)) k.0 in
        let less : length scope < 32 = ltb-true (length scope) 32 j.0 in
        let more : length (within word sort scope) ≡ length scope + 1 = omega arith in
        let declared = declared-sort sort j.1 in
        let z = d.1 (fits.bound bound (length scope) sort) (within word sort scope) (binds-more agent bound word sort scope declared binds) (omega (arith, less, more))
        (subst (λ n. cond_keeps (signature_of names) d.0 n ≡ true) (sym more) k.1) c h in
        record { binder = and_both (nat_lt (length scope) 32) (is_sort agent sort) j.0 declared; fit = z.fits; written = subst (λ n. is_written_cond agent c n ≡ true) more z.written }

    same-no : variable_no scope ≡ length scope
    same-no = omega (arith, few)

    bound-made : (make : ℕ → ℕ → Cond → Cond) → ((sort : ℕ) (c : Cond) → Body sort c → IsCondOf agent bound (length scope) (make (length scope) sort c)) → (word : List ℕ) (sort : ℕ) (d : Keep) (c : Cond)
        → (binder_keeps (signature_of names) (length scope) sort && cond_keeps (signature_of names) d.0 (length scope + 1)) ≡ true
        → (cond_in names d.0 (within word sort scope) >>= λ c. gives (make (variable_no scope) sort c)).outcome ≡ Ok c → IsCondOf agent bound (length scope) c
    bound-made make fit word sort d c keeps h =
        let b = both (cond_in names d.0 (within word sort scope)) (λ c. gives (make (variable_no scope) sort c)) c h in
        subst (IsCondOf agent bound (length scope)) (ap (λ n. make n sort b.value) (sym same-no) ∙ ok-same (make (variable_no scope) sort b.value) c b.other)
        (fit sort b.value (body word sort d b.value keeps b.one))

    some-made : (sort : ℕ) (c : Cond) → Body sort c → IsCondOf agent bound (length scope) (cond.ForSome (length scope) sort c)
    some-made sort c b =
        made agent (ForSome (length scope) sort c) (cond.ForSome (length scope) sort c) (cond.rolls-ForSome (length scope) sort c) bound (length scope)
        (and_both (fits.binder_fits agent (length scope) sort) (cond_fits agent c (fits.bound bound (length scope) sort)) b.binder b.fit)
        (and_both (length scope == length scope) (is_written_cond agent c (length scope + 1)) (same-number (length scope)) b.written)

    every-made : (sort : ℕ) (c : Cond) → Body sort c → IsCondOf agent bound (length scope) (cond.ForAll (length scope) sort c)
    every-made sort c b =
        made agent (ForAll (length scope) sort c) (cond.ForAll (length scope) sort c) (cond.rolls-ForAll (length scope) sort c) bound (length scope)
        (and_both (fits.binder_fits agent (length scope) sort) (cond_fits agent c (fits.bound bound (length scope) sort)) b.binder b.fit)
        (and_both (length scope == length scope) (is_written_cond agent c (length scope + 1)) (same-number (length scope)) b.written)

    layer : (y : DraftCond-F Keep) → cond_keeps_step (signature_of names) (map-DraftCond DraftCond (ℕ → Bool) (cond_keeps (signature_of names)) (drafts_of y)) (length scope) ≡ true → (c : Cond)
        → (cond_step names (map-DraftCond DraftCond InScope (cond_in names) (drafts_of y)) scope).outcome ≡ Ok c → IsCondOf agent bound (length scope) c
    layer (draft.Truth b at) keeps c h =
        subst (IsCondOf agent bound (length scope)) (ok-same (cond.Truth b) c h) (made agent (Truth b) (cond.Truth b) (cond.rolls-Truth b) bound (length scope) refl refl)
    layer (draft.Is fluent args at) keeps c h = is-made fluent args at c keeps h
    layer (draft.Equal one other at) keeps c h = compared false (λ (sides : Sides). cond.Equal sides.sort sides.one sides.other) equal-made one other c keeps h
    layer (draft.Less one other at) keeps c h = compared true (λ (sides : Sides). cond.Less sides.sort sides.one sides.other) less-made one other c keeps h
    layer (draft.AtMost one other at) keeps c h = compared true (λ (sides : Sides). cond.AtMost sides.sort sides.one sides.other) at-most-made one other c keeps h
    layer (draft.Not d at) keeps c h = not-made d c keeps h
    layer (draft.And ds at) keeps c h = all-made cond.And and-made ds c keeps h
    layer (draft.Or ds at) keeps c h = all-made cond.Or or-made ds c keeps h
    layer (draft.ForSome word sort d at) keeps c h = bound-made cond.ForSome some-made word sort d c keeps h
    layer (draft.ForAll word sort d at) keeps c h = bound-made cond.ForAll every-made word sort d c keeps h

  kept-layer : (y : DraftCond-F Keep) → Kept (roll-DraftCond (drafts_of y))
  kept-layer y bound scope binds few keeps c h =
      layer bound scope binds few y (sym (ap (λ g. g (length scope)) (keeps-cond (signature_of names) (drafts_of y))) ∙ keeps) c
      (ap (λ (f : InScope). (f scope).outcome) (sym (in-cond names (drafts_of y))) ∙ h)

  pub kept : (d : DraftCond) → Kept d
  kept = ind-DraftCond Kept (λ x y is. subst (λ l. Kept (roll-DraftCond l)) is (kept-layer y))

pub conds-fit : CondsFit
conds-fit agent names has draft bound scope binds few keeps cond h = kept agent names has draft bound scope binds few keeps cond h
