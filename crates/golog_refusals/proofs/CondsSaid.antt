-- A draft of a condition says what it is taken for; the laws of conditions, and what an agent has of its own.
use Rattle.std.proofs.Common.{◌≡◌, ℕ, ◌+◌, Bool, true, false, IsTrue, ◌&&◌, ◌==◌, if◌then◌else◌, List, [], ◌∷◌, ◌++◌, map, refl, sym, ap, subst, ◌∙◌, append_assoc, append-nil, Option, Some, None, Ok}
use Rattle.std.specs.Prelude.{not}
use Rattle.std.specs.List.{list_all}
use Rattle.std.proofs.lemmas.Bool.{eqb-true}
use Rattle.golog_tree.specs.declared.agent.Agent.{Agent}
use Rattle.golog_tree.specs.declared.agent.FluentItem.{FluentItem}
use Rattle.golog_tree.specs.declared.cond.Term.{Term}
use Rattle.golog_tree.specs.declared.cond.Cond.{Cond}
use Rattle.golog_tree.specs.declared.cond.Cond.TheVariants as cond
use Rattle.golog_tree.specs.declared.cond.Cond.TheOpen.{Cond-F, Truth, Is, Equal, Less, AtMost, Not, And, Or, ForSome, ForAll}
use Rattle.golog_tree.specs.declared.cond.Cond.TheViews.{out-Cond}
use Rattle.golog_tree.specs.declared.draft_cond.DraftArg.{DraftArg}
use Rattle.golog_tree.specs.declared.draft_cond.DraftTerm.{DraftTerm}
use Rattle.golog_tree.specs.declared.draft_cond.DraftCond.{DraftCond}
use Rattle.golog_tree.specs.declared.draft_cond.DraftCond.TheOpen as draft
use Rattle.golog_tree.specs.declared.draft_cond.DraftCond.TheOpen.{DraftCond-F}
use Rattle.golog_tree.specs.declared.draft_cond.DraftCond.TheViews.{roll-DraftCond}
use Rattle.golog_tree.specs.declared.draft_cond.DraftCond.TheFolds.{fold-roll-DraftCond, ind-DraftCond, map-DraftCond}
use Rattle.golog_rows.specs.Reading.{gives, row, ◌>>=◌, found, each}
use Rattle.golog_semantics.specs.Fits.{bool_sort, nothing_bound}
use Rattle.golog_semantics.specs.WellFormed.{WellFormed}
use Rattle.golog_semantics.proofs.Tests.{and_both, and_cases}
use Rattle.golog_draft.specs.Drafts.{fluent_keeps, term_keeps, binder_keeps, cond_keeps, cond_keeps_step, AgentCondKeeps}
use Rattle.golog_check.specs.declared.terms.Sides.{Sides}
use Rattle.golog_check.specs.Codes.{SORT_CLASH}
use Rattle.golog_check.specs.DeclaredItems.{Declared, declared_in}
use Rattle.golog_check.specs.Sorts as sorts
use Rattle.golog_check.specs.Sorts.{fluent_sort, fluent_sorts}
use Rattle.golog_check.specs.Scope.{Scope, variable_no, within}
use Rattle.golog_check.specs.Terms.{is_other, args_in, term_place, term_sort, term_as, common, sides_in}
use Rattle.golog_check.specs.Conditions.{InScope, conds_in, is_in, cond_step, cond_in}
use Rattle.golog_check.specs.CheckLaws.{HasItems, signature_of}
use Rattle.golog_check.proofs.Asked.{fluents-sorted}
use Rattle.golog_check.proofs.CondLaws.{own-no-other}
use Rattle.golog_check.proofs.Readings.{both, past, found-it, ok-same}
use Rattle.golog_check.proofs.ArgLaws.{some-same, none-not, same-number}
use Rattle.golog_check.proofs.Layers.{in-cond, keeps-cond}
use Rattle.golog_refusals.specs.Says.{args_say, term_says, CondSays, conds_say, bound_says, cond_says_step, cond_says}
use Rattle.golog_refusals.specs.RefusalLaws.{CondsSay, CondsAreSaid}
use Rattle.golog_refusals.proofs.ArgsSaid.{args-said, arity}
use Rattle.golog_refusals.proofs.TermsSaid.{says}
use Rattle.golog_refusals.proofs.CondsTaken.{sides_of, says-roll, one_in, cond-taken}

common-said : (one other : Option ℕ) (sort : ℕ) → common one other ≡ Some sort
    → (is_other one sort ≡ false) × (is_other other sort ≡ false)
common-said None None sort h = absurd (none-not sort h)
common-said None (Some o) sort h = (refl, ap (λ (n : ℕ). is_other (Some n) sort) (some-same o sort h) ∙ own-no-other sort)
common-said (Some o) None sort h = (ap (λ (n : ℕ). is_other (Some n) sort) (some-same o sort h) ∙ own-no-other sort, refl)
common-said (Some o) (Some p) sort h = go (o == p) refl h
  where
    go : (b : Bool) → (o == p) ≡ b → (if b then Some o else None) ≡ Some sort
        → (is_other (Some o) sort ≡ false) × (is_other (Some p) sort ≡ false)
    go true e k =
        let is = some-same o sort k in (
          ap (λ (n : ℕ). is_other (Some n) sort) is ∙ own-no-other sort,
          ap (λ (n : ℕ). is_other (Some n) sort) (sym (eqb-true o p e) ∙ is) ∙ own-no-other sort,
        )
    go false e k = absurd (none-not sort k)

module _ (names : Declared) where
  abbrev pub Says : DraftCond → Type 0
  Says d = (scope : Scope) (n : ℕ) (c : Cond) → cond_keeps (signature_of names) d n ≡ true
      → (cond_in names d scope).outcome ≡ Ok c → cond_says names d scope c ≡ true

  abbrev Saying : Type 0
  Saying = (d : DraftCond) × Says d

  abbrev sayings_of : DraftCond-F Saying → DraftCond-F DraftCond
  sayings_of y = map-DraftCond Saying DraftCond (λ d. d.0) y

  abbrev every_of : List Saying → List DraftCond
  every_of ds = map (λ d. d.0) ds

  -- by the layer of what is made
  by-layer : (holds : Cond-F Cond Term → Bool) (l : Cond-F Cond Term) (made c : Cond) → out-Cond made ≡ l
      → made ≡ c → holds l ≡ true → holds (out-Cond c) ≡ true
  by-layer holds l made c o e h = subst (λ (x : Cond). holds (out-Cond x) ≡ true) e (ap holds o ∙ h)

  module _ (scope : Scope) (n : ℕ) where
    sides-said : (is_order : Bool) (one other : DraftTerm) (sides : Sides)
        → (term_keeps (signature_of names) one && term_keeps (signature_of names) other) ≡ true
        → (sides_in names scope is_order one other).outcome ≡ Ok sides
        → (term_says names scope one sides.sort sides.one && term_says names scope other sides.sort sides.other) ≡ true
    unfolding sides_in
    sides-said is_order one other sides keeps h =
        let k = and_cases (term_keeps (signature_of names) one) (term_keeps (signature_of names) other) keeps in
        let a = both
        (found SORT_CLASH (term_place one) (common (term_sort names scope one) (term_sort names scope other)))
        (λ sort. row (is_order && not (sorts.is_range names sort)) SORT_CLASH (term_place one)
        (term_as names scope one sort >>= λ t. term_as names scope other sort >>= λ u. gives (sides_of sort t u)))
        sides h in
        let sort = a.value in
        let c = common-said (term_sort names scope one) (term_sort names scope other) sort
        (found-it SORT_CLASH (term_place one) (common (term_sort names scope one) (term_sort names scope other)) sort
        a.one) in
        let p = past (is_order && not (sorts.is_range names sort)) SORT_CLASH (term_place one)
        (term_as names scope one sort >>= λ t. term_as names scope other sort >>= λ u. gives (sides_of sort t u))
        sides a.other in
        let b = both (term_as names scope one sort)
        (λ t. term_as names scope other sort >>= λ u. gives (sides_of sort t u)) sides p.rest in
        let d = both (term_as names scope other sort) (λ u. gives (sides_of sort b.value u)) sides b.other in
        subst
        (λ (s : Sides). (term_says names scope one s.sort s.one && term_says names scope other s.sort s.other) ≡ true)
        {x = sides_of sort b.value d.value} (ok-same (sides_of sort b.value d.value) sides d.other)
        (and_both (term_says names scope one sort b.value) (term_says names scope other sort d.value)
        (says names scope one sort b.value k.0 c.0 b.one) (says names scope other sort d.value k.1 c.1 d.one))

    -- a comparison, made of its sides
    compared-said : (is_order : Bool) (make : Sides → Cond) (holds : Cond-F Cond Term → Bool)
        (layer_of : Sides → Cond-F Cond Term) → ((sides : Sides) → out-Cond (make sides) ≡ layer_of sides)
        → (one other : DraftTerm)
        → ((sides : Sides)
        → (term_says names scope one sides.sort sides.one && term_says names scope other sides.sort sides.other) ≡ true
        → holds (layer_of sides) ≡ true)
        → (c : Cond) → (term_keeps (signature_of names) one && term_keeps (signature_of names) other) ≡ true
        → (sides_in names scope is_order one other >>= λ (sides : Sides). gives (make sides)).outcome ≡ Ok c
        → holds (out-Cond c) ≡ true
    compared-said is_order make holds layer_of opened one other goes c keeps h =
        let b = both (sides_in names scope is_order one other) (λ (sides : Sides). gives (make sides)) c h in
        by-layer holds (layer_of b.value) (make b.value) c (opened b.value) (ok-same (make b.value) c b.other)
        (goes b.value (sides-said is_order one other b.value keeps b.one))

    is-said : (fluent : ℕ) (drafts : List DraftArg) (at : ℕ) (c : Cond)
        → fluent_keeps (signature_of names) fluent drafts ≡ true
        → (is_in names scope fluent drafts at >>= λ args. gives (cond.Is fluent args)).outcome ≡ Ok c
        → cond_says_step names (draft.Is fluent drafts at) scope (out-Cond c) ≡ true
    unfolding is_in
    is-said fluent drafts at c keeps h =
        let b = both (is_in names scope fluent drafts at) (λ args. gives (cond.Is fluent args)) c h in
        let p = past (is_other (fluent_sort names fluent) bool_sort) SORT_CLASH at
        (args_in names scope (fluent_sorts names fluent) drafts) b.value b.one in
        by-layer (cond_says_step names (draft.Is fluent drafts at) scope) (Is fluent b.value)
        (cond.Is fluent b.value) c (cond.outs-Is fluent b.value) (ok-same (cond.Is fluent b.value) c b.other)
        (and_both (fluent == fluent) (args_say names scope (fluent_sorts names fluent) drafts b.value)
        (same-number fluent)
        (args-said names scope (fluent_sorts names fluent) drafts b.value (arity names fluent drafts keeps) p.rest))

    not-said : (d : Saying) (at : ℕ) (c : Cond) → cond_keeps (signature_of names) d.0 n ≡ true
        → (cond_in names d.0 scope >>= λ c. gives (cond.Not c)).outcome ≡ Ok c
        → cond_says_step names (draft.Not (cond_says names d.0) at) scope (out-Cond c) ≡ true
    not-said d at c keeps h =
        let b = both (cond_in names d.0 scope) (λ c. gives (cond.Not c)) c h in
        by-layer (cond_says_step names (draft.Not (cond_says names d.0) at) scope) (Not b.value)
        (cond.Not b.value) c (cond.outs-Not b.value) (ok-same (cond.Not b.value) c b.other)
        (d.1 scope n b.value keeps b.one)

    -- what drafts say behind what was said
    record Behind (ds : List Saying) (done result : List Cond) : Type 0 where
      conds : List Cond
      is : done ++ conds ≡ result
      said : conds_say scope (map (cond_says names) (every_of ds)) conds ≡ true

    each-said : (ds : List Saying) (done result : List Cond)
        → list_all (λ c. c n) (map (cond_keeps (signature_of names)) (every_of ds)) ≡ true
        → (each (one_in names scope) done (map (cond_in names) (every_of ds))).outcome ≡ Ok result
        → Behind ds done result
    each-said [] done result keeps h = record { conds = []; is = append-nil done ∙ ok-same done result h; said = refl }
    each-said (d ∷ ds) done result keeps h =
        let b = both (cond_in names d.0 scope)
        (λ x. each (one_in names scope) (done ++ x ∷ []) (map (cond_in names) (every_of ds))) result h in
        let k = and_cases (cond_keeps (signature_of names) d.0 n)
        (list_all (λ c. c n) (map (cond_keeps (signature_of names)) (every_of ds))) keeps in
        let more = each-said ds (done ++ b.value ∷ []) result k.1 b.other in
        record {
          conds = b.value ∷ more.conds;
          is = sym (append_assoc done (b.value ∷ []) more.conds) ∙ more.is;
          said =
              and_both (cond_says names d.0 scope b.value)
              (conds_say scope (map (cond_says names) (every_of ds)) more.conds)
              (d.1 scope n b.value k.0 b.one) more.said;
        }

    all-said : (make : List Cond → Cond) (holds : Cond-F Cond Term → Bool) (layer_of : List Cond → Cond-F Cond Term)
        → ((cs : List Cond) → out-Cond (make cs) ≡ layer_of cs)
        → (ds : List Saying) → ((cs : List Cond) → conds_say scope (map (cond_says names) (every_of ds)) cs ≡ true
        → holds (layer_of cs) ≡ true)
        → (c : Cond) → list_all (λ c. c n) (map (cond_keeps (signature_of names)) (every_of ds)) ≡ true
        → (conds_in scope (map (cond_in names) (every_of ds)) >>= λ cs. gives (make cs)).outcome ≡ Ok c
        → holds (out-Cond c) ≡ true
    all-said make holds layer_of opened ds goes c keeps h =
        let b = both (conds_in scope (map (cond_in names) (every_of ds))) (λ cs. gives (make cs)) c h in
        let r = each-said ds [] b.value keeps b.one in
        by-layer holds (layer_of b.value) (make b.value) c (opened b.value) (ok-same (make b.value) c b.other)
        (goes b.value
        (subst (λ (xs : List Cond). conds_say scope (map (cond_says names) (every_of ds)) xs ≡ true) r.is r.said))

    bound-said : (make : ℕ → ℕ → Cond → Cond) (holds : Cond-F Cond Term → Bool)
        (layer_of : ℕ → ℕ → Cond → Cond-F Cond Term)
        → ((var own : ℕ) (c : Cond) → out-Cond (make var own c) ≡ layer_of var own c)
        → (word : List ℕ) (sort : ℕ) (d : Saying)
        → ((var own : ℕ) (c : Cond) → bound_says scope word sort (cond_says names d.0) var own c ≡ true
        → holds (layer_of var own c) ≡ true)
        → (c : Cond) → (binder_keeps (signature_of names) n sort && cond_keeps (signature_of names) d.0 (n + 1)) ≡ true
        → (cond_in names d.0 (within word sort scope) >>= λ c. gives (make (variable_no scope) sort c)).outcome
        ≡ Ok c → holds (out-Cond c) ≡ true
    bound-said make holds layer_of opened word sort d goes c keeps h =
        let b = both (cond_in names d.0 (within word sort scope)) (λ c. gives (make (variable_no scope) sort c)) c h in
        let k = and_cases (binder_keeps (signature_of names) n sort)
        (cond_keeps (signature_of names) d.0 (n + 1)) keeps in
        by-layer holds (layer_of (variable_no scope) sort b.value) (make (variable_no scope) sort b.value) c
        (opened (variable_no scope) sort b.value) (ok-same (make (variable_no scope) sort b.value) c b.other)
        (goes (variable_no scope) sort b.value
        (and_both (variable_no scope == variable_no scope && sort == sort)
        (cond_says names d.0 (within word sort scope) b.value)
        (and_both (variable_no scope == variable_no scope) (sort == sort) (same-number (variable_no scope))
        (same-number sort))
        (d.1 (within word sort scope) (n + 1) b.value k.1 b.one)))

    abbrev sides_open : (ℕ → Term → Term → Cond-F Cond Term) → Sides → Cond-F Cond Term
    sides_open make sides = make sides.sort sides.one sides.other

    layer-said : (y : DraftCond-F Saying) (c : Cond)
        → cond_keeps_step (signature_of names)
        (map-DraftCond DraftCond (ℕ → Bool) (cond_keeps (signature_of names)) (sayings_of y)) n ≡ true
        → (cond_step names (map-DraftCond DraftCond InScope (cond_in names) (sayings_of y)) scope).outcome ≡ Ok c
        → cond_says_step names (map-DraftCond DraftCond CondSays (cond_says names) (sayings_of y)) scope
        (out-Cond c) ≡ true
    layer-said (draft.Truth true at) c keeps h =
        by-layer (cond_says_step names (draft.Truth true at) scope) (Truth true) (cond.Truth true) c
        (cond.outs-Truth true) (ok-same (cond.Truth true) c h) refl
    layer-said (draft.Truth false at) c keeps h =
        by-layer (cond_says_step names (draft.Truth false at) scope) (Truth false) (cond.Truth false) c
        (cond.outs-Truth false) (ok-same (cond.Truth false) c h) refl
    layer-said (draft.Is fluent drafts at) c keeps h = is-said fluent drafts at c keeps h
    layer-said (draft.Equal one other at) c keeps h =
        compared-said false (λ (sides : Sides). cond.Equal sides.sort sides.one sides.other)
        (cond_says_step names (draft.Equal one other at) scope) (sides_open Equal)
        (λ sides. cond.outs-Equal sides.sort sides.one sides.other) one other (λ sides k. k) c keeps h
    layer-said (draft.Less one other at) c keeps h =
        compared-said true (λ (sides : Sides). cond.Less sides.sort sides.one sides.other)
        (cond_says_step names (draft.Less one other at) scope) (sides_open Less)
        (λ sides. cond.outs-Less sides.sort sides.one sides.other) one other (λ sides k. k) c keeps h
    layer-said (draft.AtMost one other at) c keeps h =
        compared-said true (λ (sides : Sides). cond.AtMost sides.sort sides.one sides.other)
        (cond_says_step names (draft.AtMost one other at) scope) (sides_open AtMost)
        (λ sides. cond.outs-AtMost sides.sort sides.one sides.other) one other (λ sides k. k) c keeps h
    layer-said (draft.Not d at) c keeps h = not-said d at c keeps h
    layer-said (draft.And ds at) c keeps h =
        all-said cond.And (cond_says_step names (draft.And (map (cond_says names) (every_of ds)) at) scope)
        And cond.outs-And ds (λ cs k. k) c keeps h
    layer-said (draft.Or ds at) c keeps h =
        all-said cond.Or (cond_says_step names (draft.Or (map (cond_says names) (every_of ds)) at) scope)
        Or cond.outs-Or ds (λ cs k. k) c keeps h
    layer-said (draft.ForSome word sort d at) c keeps h =
        bound-said cond.ForSome (cond_says_step names (draft.ForSome word sort (cond_says names d.0) at) scope)
        ForSome cond.outs-ForSome word sort d (λ var own c k. k) c keeps h
    layer-said (draft.ForAll word sort d at) c keeps h =
        bound-said cond.ForAll (cond_says_step names (draft.ForAll word sort (cond_says names d.0) at) scope)
        ForAll cond.outs-ForAll word sort d (λ var own c k. k) c keeps h

  says-layer : (y : DraftCond-F Saying) → Says (roll-DraftCond (sayings_of y))
  says-layer y scope n c keeps h =
      let l = sayings_of y in
      says-roll names l scope c
      ∙ layer-said scope n y c (sym (ap (λ (g : ℕ → Bool). g n) (keeps-cond (signature_of names) l)) ∙ keeps)
      (ap (λ (f : InScope). (f scope).outcome) (sym (in-cond names l)) ∙ h)

  conds-said : (d : DraftCond) → Says d
  conds-said = ind-DraftCond Says (λ x y is. subst (λ l. Says (roll-DraftCond l)) is (says-layer y))

pub cond-said : (names : Declared) (draft : DraftCond) (scope : Scope) (n : ℕ)
    → IsTrue (cond_keeps (signature_of names) draft n) → (c : Cond)
    → (cond_in names draft scope).outcome ≡ Ok c → IsTrue (cond_says names draft scope c)
cond-said names draft scope n keeps c h = conds-said names draft scope n c keeps h

-- an agent has the items of its own sorts and fluents
pub has-own : (agent : Agent) (names : Declared) → agent.sorts ≡ names.sorts → agent.fluents ≡ names.fluents
    → WellFormed agent → HasItems agent names
has-own agent names sorts fluents w =
    record { sorts = sorts; fluents = fluents; sorted = fluents-sorted agent agent.fluents w.fluents }

conds-say : (agent : Agent) → WellFormed agent → (draft : DraftCond) → AgentCondKeeps agent draft → CondsSay agent draft
conds-say agent w draft keeps = record {
  taken = λ c h is.
      cond-taken agent (declared_in agent) (has-own agent (declared_in agent) refl refl w) draft nothing_bound [] 0 c h
      is.fits is.written;
  said = λ c h. cond-said (declared_in agent) draft [] 0 keeps c h;
}

pub conds-are-said : CondsAreSaid
conds-are-said agent w draft keeps = conds-say agent w draft keeps
