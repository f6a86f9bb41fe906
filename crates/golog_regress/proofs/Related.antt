-- Conditions that are related part by part: where the one fits, so does the other, and they have the same truth.
use Rattle.std.proofs.Common.{◌≡◌, ℕ, zero, suc, ◌+◌, ◌<◌, ℤ, Bool, true, ◌&&◌, ◌==◌, List, [], ◌∷◌, map, refl, sym, ap, ◌∙◌, arith}
use Rattle.std.specs.Prelude.{nat_lt, nat_le, slice_set}
use Rattle.std.specs.List.{list_all, range_with_len}
use Rattle.golog_tree.specs.declared.agent.Agent.{Agent}
use Rattle.golog_tree.specs.declared.cond.Term.{Term}
use Rattle.golog_tree.specs.declared.cond.Cond.{Cond}
use Rattle.golog_tree.specs.declared.cond.Term.TheVariants as term
use Rattle.golog_tree.specs.declared.cond.Cond.TheVariants as cond
use Rattle.golog_tree.specs.Ground.{sort_size}
use Rattle.golog_semantics.specs.Truth.{Env, Values, not_of, and_of, or_of, comparison_of, value_shifted, chosen, truth_of, value_of}
use Rattle.golog_semantics.specs.Fits.{Scope, bound, is_sort, is_range, binder_fits, cond_fits, term_fits}
use Rattle.golog_semantics.proofs.ByParts.{OfEach}
use Rattle.golog_semantics.proofs.Tests.{and_both, and_cases}
use Rattle.golog_regress.proofs.Evaluation.{A, E}
use Rattle.golog_regress.proofs.Evaluation as by

-- two functions that are the same below n
pub map-range : {B : Type 0} (f g : ℕ → B) (a n : ℕ) → ((k : ℕ) → k < a + n → f k ≡ g k) → map f (range_with_len a n) ≡ map g (range_with_len a n)
map-range f g a zero h = refl
map-range f g a (suc n) h =
    let first : f a ≡ g a = h a (omega arith) in
    let rest : map f (range_with_len (a + 1) n) ≡ map g (range_with_len (a + 1) n) = map-range f g (a + 1) n (λ k l. h k (omega arith)) in
    (λ i. first i ∷ rest i)

pub of-each : {P Q : Cond → Type 0} → ((c : Cond) → P c → Q c) → (cs : List Cond) → OfEach P cs → OfEach Q cs
of-each h [] k = tt
of-each h (c ∷ cs) k = (h c k.0, of-each h cs k.1)

-- Which values and environments belong to the other condition's, in that order: values of both, and then
-- environments.
abbrev pub At : Type 1
At = Values → Values → Env → Env → Type 0

module _ (agent : Agent) where
  module _ (old new : Scope) (at : At) where
    abbrev pub GoesCond : Cond → Cond → Type 0
    GoesCond c d =
        cond_fits agent c old ≡ true
        → (cond_fits agent d new ≡ true)
        × ((vs ws : Values) (env to : Env) → at vs ws env to → truth_of agent vs d env ≡ truth_of agent ws c to)

    abbrev pub GoesTerm : Term → Term → Type 0
    GoesTerm t u =
        (sort : ℕ) → term_fits agent t old sort ≡ true
        → (term_fits agent u new sort ≡ true)
        × ((vs ws : Values) (env to : Env) → at vs ws env to → value_of agent vs u env ≡ value_of agent ws t to)

    pub goes-shift : (sort : ℕ) (t u : Term) (by : ℤ) → GoesTerm t u → GoesTerm (term.Shift sort t by) (term.Shift sort u by)
    goes-shift sort t u amount g own e =
        let k = and_cases (sort == own && is_range agent own) (term_fits agent t old own) (sym (by.fits-shift agent sort t amount old own) ∙ e) in
        let r = g own k.1 in (
          by.fits-shift agent sort u amount new own ∙ and_both (sort == own && is_range agent own) (term_fits agent u new own) k.0 r.0,
          λ vs ws env to h. by.value-shift agent vs sort u amount env ∙ ap (λ v. value_shifted (sort_size agent sort) v amount) (r.1 vs ws env to h) ∙ sym (by.value-shift agent ws sort t amount to),
        )

    pub goes-ite : (c d : Cond) (t t' u u' : Term) → GoesCond c d → GoesTerm t t' → GoesTerm u u' → GoesTerm (term.Ite c t u) (term.Ite d t' u')
    goes-ite c d t t' u u' f g h own e =
        let k = and_cases (cond_fits agent c old && term_fits agent t old own) (term_fits agent u old own) (sym (by.fits-ite agent c t u old own) ∙ e) in
        let j = and_cases (cond_fits agent c old) (term_fits agent t old own) k.0 in
        let q = f j.0 in
        let r = g own j.1 in
        let s = h own k.1 in (
          by.fits-ite agent d t' u' new own
              ∙ and_both (cond_fits agent d new && term_fits agent t' new own) (term_fits agent u' new own) (and_both (cond_fits agent d new) (term_fits agent t' new own) q.0 r.0) s.0,
          λ vs ws env to h. by.value-ite agent vs d t' u' env ∙ (λ i. chosen (q.1 vs ws env to h i) (r.1 vs ws env to h i) (s.1 vs ws env to h i)) ∙ sym (by.value-ite agent ws c t u to),
        )

    pub goes-not : (c d : Cond) → GoesCond c d → GoesCond (cond.Not c) (cond.Not d)
    goes-not c d g e =
        let r = g (sym (by.fits-not agent c old) ∙ e) in
        (by.fits-not agent d new ∙ r.0, λ vs ws env to h. by.truth-not agent vs d env ∙ ap not_of (r.1 vs ws env to h) ∙ sym (by.truth-not agent ws c to))

    -- both sides of a comparison
    goes-sides : (of_sort : Bool) (test : ℕ → ℕ → Bool) (sort : ℕ) (t t' u u' : Term) → GoesTerm t t' → GoesTerm u u'
        → ((of_sort && term_fits agent t old sort) && term_fits agent u old sort) ≡ true
        → (((of_sort && term_fits agent t' new sort) && term_fits agent u' new sort) ≡ true)
        × ((vs ws : Values) (env to : Env) → at vs ws env to
        → comparison_of test (value_of agent vs t' env) (value_of agent vs u' env) ≡ comparison_of test (value_of agent ws t to) (value_of agent ws u to))
    goes-sides of_sort test sort t t' u u' g h e =
        let k = and_cases (of_sort && term_fits agent t old sort) (term_fits agent u old sort) e in
        let j = and_cases of_sort (term_fits agent t old sort) k.0 in
        let r = g sort j.1 in
        let s = h sort k.1 in (
          and_both (of_sort && term_fits agent t' new sort) (term_fits agent u' new sort) (and_both of_sort (term_fits agent t' new sort) j.0 r.0) s.0,
          λ vs ws env to f i. comparison_of test (r.1 vs ws env to f i) (s.1 vs ws env to f i),
        )

    pub goes-equal : (sort : ℕ) (t t' u u' : Term) → GoesTerm t t' → GoesTerm u u' → GoesCond (cond.Equal sort t u) (cond.Equal sort t' u')
    goes-equal sort t t' u u' g h e =
        let r = goes-sides (is_sort agent sort) (λ a b. a == b) sort t t' u u' g h (sym (by.fits-equal agent sort t u old) ∙ e) in
        (by.fits-equal agent sort t' u' new ∙ r.0, λ vs ws env to h. by.truth-equal agent vs sort t' u' env ∙ r.1 vs ws env to h ∙ sym (by.truth-equal agent ws sort t u to))

    pub goes-less : (sort : ℕ) (t t' u u' : Term) → GoesTerm t t' → GoesTerm u u' → GoesCond (cond.Less sort t u) (cond.Less sort t' u')
    goes-less sort t t' u u' g h e =
        let r = goes-sides (is_range agent sort) nat_lt sort t t' u u' g h (sym (by.fits-less agent sort t u old) ∙ e) in
        (by.fits-less agent sort t' u' new ∙ r.0, λ vs ws env to h. by.truth-less agent vs sort t' u' env ∙ r.1 vs ws env to h ∙ sym (by.truth-less agent ws sort t u to))

    pub goes-at_most : (sort : ℕ) (t t' u u' : Term) → GoesTerm t t' → GoesTerm u u' → GoesCond (cond.AtMost sort t u) (cond.AtMost sort t' u')
    goes-at_most sort t t' u u' g h e =
        let r = goes-sides (is_range agent sort) nat_le sort t t' u u' g h (sym (by.fits-at_most agent sort t u old) ∙ e) in
        (by.fits-at_most agent sort t' u' new ∙ r.0, λ vs ws env to h. by.truth-at_most agent vs sort t' u' env ∙ r.1 vs ws env to h ∙ sym (by.truth-at_most agent ws sort t u to))

    goes-each : (f : Cond → Cond) (cs : List Cond) → OfEach (λ c. GoesCond c (f c)) cs → list_all (λ (test : A). test old) (map (cond_fits agent) cs) ≡ true
        → (list_all (λ (test : A). test new) (map (cond_fits agent) (map f cs)) ≡ true)
        × ((vs ws : Values) (env to : Env) → at vs ws env to → map (λ (t : E). t env) (map (truth_of agent vs) (map f cs)) ≡ map (λ (t : E). t to) (map (truth_of agent ws) cs))
    goes-each f [] g e = (refl, λ vs ws env to h. refl)
    goes-each f (c ∷ cs) g e =
        let k = and_cases (cond_fits agent c old) (list_all (λ (test : A). test old) (map (cond_fits agent) cs)) e in
        let r = g.0 k.0 in
        let s = goes-each f cs g.1 k.1 in (
          and_both (cond_fits agent (f c) new) (list_all (λ (test : A). test new) (map (cond_fits agent) (map f cs))) r.0 s.0,
          λ vs ws env to h i. r.1 vs ws env to h i ∷ s.1 vs ws env to h i,
        )

    pub goes-and : (f : Cond → Cond) (cs : List Cond) → OfEach (λ c. GoesCond c (f c)) cs → GoesCond (cond.And cs) (cond.And (map f cs))
    goes-and f cs g e =
        let r = goes-each f cs g (sym (by.fits-and agent cs old) ∙ e) in
        (by.fits-and agent (map f cs) new ∙ r.0, λ vs ws env to h. by.truth-and agent vs (map f cs) env ∙ ap and_of (r.1 vs ws env to h) ∙ sym (by.truth-and agent ws cs to))

    pub goes-or : (f : Cond → Cond) (cs : List Cond) → OfEach (λ c. GoesCond c (f c)) cs → GoesCond (cond.Or cs) (cond.Or (map f cs))
    goes-or f cs g e =
        let r = goes-each f cs g (sym (by.fits-or agent cs old) ∙ e) in
        (by.fits-or agent (map f cs) new ∙ r.0, λ vs ws env to h. by.truth-or agent vs (map f cs) env ∙ ap or_of (r.1 vs ws env to h) ∙ sym (by.truth-or agent ws cs to))

  -- the bodies of two binders, where each constant of the sort is set in both
  pub record GoesBody (old new : Scope) (at : At) (x y sort : ℕ) (c d : Cond) : Type 1 where
    pub binder : binder_fits agent y sort ≡ true
    pub inner : At
    pub set : (vs ws : Values) (env to : Env) → at vs ws env to → (k : ℕ) → k < sort_size agent sort → inner vs ws (slice_set env y k) (slice_set to x k)
    pub body : GoesCond (bound old x sort) (bound new y sort) inner c d

  module _ (old new : Scope) (at : At) (x y sort : ℕ) (c d : Cond) (goes : binder_fits agent x sort ≡ true → GoesBody old new at x y sort c d) where
    bodies : (binder_fits agent x sort && cond_fits agent c (bound old x sort)) ≡ true
        → ((binder_fits agent y sort && cond_fits agent d (bound new y sort)) ≡ true)
        × ((vs ws : Values) (env to : Env) → at vs ws env to → map (λ v. truth_of agent vs d (slice_set env y v)) (range_with_len 0 (sort_size agent sort))
        ≡ map (λ v. truth_of agent ws c (slice_set to x v)) (range_with_len 0 (sort_size agent sort)))
    bodies e =
        let k = and_cases (binder_fits agent x sort) (cond_fits agent c (bound old x sort)) e in
        let g = goes k.0 in
        let r = g.body k.1 in (
          and_both (binder_fits agent y sort) (cond_fits agent d (bound new y sort)) g.binder r.0,
          λ vs ws env to h. map-range (λ v. truth_of agent vs d (slice_set env y v)) (λ v. truth_of agent ws c (slice_set to x v)) 0 (sort_size agent sort)
              (λ v l. r.1 vs ws (slice_set env y v) (slice_set to x v) (g.set vs ws env to h v (omega arith))),
        )

    pub goes-some : GoesCond old new at (cond.ForSome x sort c) (cond.ForSome y sort d)
    goes-some e =
        let r = bodies (sym (by.fits-some agent x sort c old) ∙ e) in
        (by.fits-some agent y sort d new ∙ r.0, λ vs ws env to h. by.truth-some agent vs y sort d env ∙ ap or_of (r.1 vs ws env to h) ∙ sym (by.truth-some agent ws x sort c to))

    pub goes-all : GoesCond old new at (cond.ForAll x sort c) (cond.ForAll y sort d)
    goes-all e =
        let r = bodies (sym (by.fits-all agent x sort c old) ∙ e) in
        (by.fits-all agent y sort d new ∙ r.0, λ vs ws env to h. by.truth-all agent vs y sort d env ∙ ap and_of (r.1 vs ws env to h) ∙ sym (by.truth-all agent ws x sort c to))
