-- A condition that is taken back has, before, the truth that it has after.
use Rattle.std.proofs.Common.{◌≡◌, ℕ, zero, suc, ◌<◌, ◌≤◌, Bool, true, false, ◌&&◌, ◌==◌, if◌then◌else◌, Some, List, [], ◌∷◌, length, map, take, refl, sym, ap, ◌∙◌, subst, arith}
use Rattle.std.specs.Prelude.{nat_lt, slice_get, slice_index, slice_set}
use Rattle.std.specs.List.{list_all}
use Rattle.std.proofs.lemmas.Bool.{eqb-true, eqb-false, lt-ltb, ltb-true}
use Rattle.std.proofs.lemmas.Option.{slice_get_within}
use Rattle.std.proofs.lemmas.List.{get_or-set_same, get_or-set_other}
use Rattle.std.proofs.Math.ListN.{length-set}
use Rattle.golog_tree.specs.declared.agent.Agent.{Agent}
use Rattle.golog_tree.specs.declared.agent.CauseItem.{CauseItem}
use Rattle.golog_tree.specs.declared.agent.FluentItem.{FluentItem}
use Rattle.golog_tree.specs.declared.cond.Arg.{Arg}
use Rattle.golog_tree.specs.declared.cond.Arg.TheVariants.{Const, Var}
use Rattle.golog_tree.specs.declared.cond.Truth.TheVariants.{Unknown}
use Rattle.golog_tree.specs.declared.cond.Term.{Term}
use Rattle.golog_tree.specs.declared.cond.Cond.{Cond}
use Rattle.golog_tree.specs.declared.cond.Term.TheVariants as term
use Rattle.golog_tree.specs.declared.cond.Cond.TheVariants as cond
use Rattle.golog_tree.specs.Ground.{Ground, IsCountable, fluent_no, ground_fluents, size_at, sort_size}
use Rattle.golog_tree.proofs.Decoded.{sort_size-small}
use Rattle.golog_semantics.specs.Truth.{Env, Values, is_known, truth, not_of, comparison_of, arg_value, fluent_value, truth_of, value_of}
use Rattle.golog_semantics.specs.Values.{value_by_causes}
use Rattle.golog_semantics.specs.Fits.{Scope, bound, bool_sort, args_fit, fluent_fits, is_sort, binder_fits, cond_fits, term_fits}
use Rattle.golog_semantics.specs.BuiltIn.{bool_item}
use Rattle.golog_semantics.specs.WellFormed.{WellFormed, fluent_item_fits}
use Rattle.golog_semantics.proofs.CondByParts as conds
use Rattle.golog_semantics.proofs.CausesKeep.{has}
use Rattle.golog_semantics.proofs.GroundNumbers.{some-same}
use Rattle.golog_semantics.proofs.NumbersStand.{fluent-stands}
use Rattle.golog_semantics.proofs.Tests.{and_both, and_cases}
use Rattle.golog_known.specs.Fits.{Sets}
use Rattle.golog_known.proofs.Evaluated.{args-within}
use Rattle.golog_regress.specs.declared.happened.Happened.{Happened}
use Rattle.golog_regress.specs.Causes.{chain}
use Rattle.golog_regress.specs.Regressed.{layer_is_true, is_true, cond_back, term_back}
use Rattle.golog_regress.proofs.BackParts as back
use Rattle.golog_regress.proofs.Evaluation as by
use Rattle.golog_regress.proofs.Layers.{HappensIn, Effects, chain_goes}
use Rattle.golog_regress.proofs.Related.{At, GoesCond, GoesTerm, GoesBody, of-each, goes-shift, goes-ite, goes-not, goes-equal, goes-less, goes-at_most, goes-and, goes-or, goes-some, goes-all}

-- an element of a list of which all pass a test
pub all-get : {A : Type 0} (p : A → Bool) (xs : List A) (k : ℕ) (x : A) → list_all p xs ≡ true → slice_get xs k ≡ Some x → p x ≡ true
all-get p [] k x h e = absurd (cc)
all-get p (y ∷ xs) zero x h e = subst (λ z. p z ≡ true) (some-same y x e) (and_cases (p y) (list_all p xs) h).0
all-get p (y ∷ xs) (suc k) x h e = all-get p xs k x (and_cases (p y) (list_all p xs) h).1 e

first-is : {A : Type 0} (xs : List A) (x : A) → take 1 xs ≡ x ∷ [] → slice_get xs 0 ≡ Some x
first-is [] x e = absurd (cc)
first-is (y ∷ xs) x e = let k : y ≡ x = cc in ap Some k

positive : (v : ℕ) → (suc v == 0) ≡ false
positive v = go (suc v == 0) refl
  where
    go : (b : Bool) → (suc v == 0) ≡ b → (suc v == 0) ≡ false
    go true e = absurd (let k : suc v ≡ 0 = eqb-true (suc v) 0 e in omega arith)
    go false e = e

-- a value is not the first one where it is above it
not-first : (v : ℕ) → not_of (comparison_of (λ a b. a == b) v 0) ≡ comparison_of nat_lt 0 v
not-first v = go (is_known v)
  where
    other : (v : ℕ) → not_of (truth (v == 0)) ≡ truth (nat_lt 0 v)
    other zero = refl
    other (suc v) = ap (λ b. not_of (truth b)) (positive v) ∙ ap truth (sym (lt-ltb 0 (suc v) (omega arith)))

    go : (b : Bool) → not_of (if b && true then truth (v == 0) else Unknown) ≡ (if b then truth (nat_lt 0 v) else Unknown)
    go true = other v
    go false = refl

module _ (agent : Agent) (scope : Scope) where
  -- a term of sort `bool` is true
  abbrev BecomesTrue : Term → Type 0
  BecomesTrue t =
      IsCountable agent → is_sort agent bool_sort ≡ true → 0 < sort_size agent bool_sort → term_fits agent t scope bool_sort ≡ true
      → (cond_fits agent (is_true t) scope ≡ true) × ((vs : Values) (env : Env) → truth_of agent vs (is_true t) env ≡ comparison_of nat_lt 0 (value_of agent vs t env))

  abbrev zero_term : Term
  zero_term = term.Arg (Const 0)

  unequal-goes : (t : Term) → is_sort agent bool_sort ≡ true → 0 < sort_size agent bool_sort → term_fits agent t scope bool_sort ≡ true
      → (cond_fits agent (cond.Not (cond.Equal bool_sort t zero_term)) scope ≡ true)
      × ((vs : Values) (env : Env) → truth_of agent vs (cond.Not (cond.Equal bool_sort t zero_term)) env ≡ comparison_of nat_lt 0 (value_of agent vs t env))
  unequal-goes t sorted some e = (
    by.fits-not agent (cond.Equal bool_sort t zero_term) scope ∙ by.fits-equal agent bool_sort t zero_term scope
        ∙ and_both (is_sort agent bool_sort && term_fits agent t scope bool_sort) (term_fits agent zero_term scope bool_sort) (and_both (is_sort agent bool_sort) (term_fits agent t scope bool_sort) sorted e)
        (by.fits-arg agent (Const 0) scope bool_sort ∙ lt-ltb 0 (sort_size agent bool_sort) some),
    λ vs env. by.truth-not agent vs (cond.Equal bool_sort t zero_term) env
        ∙ ap not_of (by.truth-equal agent vs bool_sort t zero_term env ∙ ap (comparison_of (λ a b. a == b) (value_of agent vs t env)) (by.value-arg agent vs (Const 0) env))
        ∙ not-first (value_of agent vs t env),
  )

  true-cases : conds.Cases (λ c. Unit {0}) BecomesTrue
  true-cases = record {
    arg_case = λ arg. arg-true arg;
    fluent_case = λ fluent args countable sorted some e.
        let is : is_true (term.Fluent fluent args) ≡ cond.Is fluent args = ap (λ l. layer_is_true l (term.Fluent fluent args)) (term.outs-Fluent fluent args) in (
          ap (λ c. cond_fits agent c scope) is ∙ by.fits-is agent fluent args scope ∙ sym (by.fits-fluent agent fluent args scope bool_sort) ∙ e,
          λ vs env. ap (λ c. truth_of agent vs c env) is ∙ by.truth-is agent vs fluent args env ∙ ap (comparison_of nat_lt 0) (sym (by.value-fluent agent vs fluent args env)),
        );
    shift_case = λ sort t amount h countable sorted some e.
        let u = term.Shift sort t amount in
        let is : is_true u ≡ cond.Not (cond.Equal bool_sort u zero_term) = ap (λ l. layer_is_true l u) (term.outs-Shift sort t amount) in
        let g = unequal-goes u sorted some e in
        (ap (λ c. cond_fits agent c scope) is ∙ g.0, λ vs env. ap (λ c. truth_of agent vs c env) is ∙ g.1 vs env);
    ite_case = λ c t v f g h countable sorted some e.
        let u = term.Ite c t v in
        let is : is_true u ≡ cond.Not (cond.Equal bool_sort u zero_term) = ap (λ l. layer_is_true l u) (term.outs-Ite c t v) in
        let g = unequal-goes u sorted some e in
        (ap (λ c. cond_fits agent c scope) is ∙ g.0, λ vs env. ap (λ c. truth_of agent vs c env) is ∙ g.1 vs env);
    truth_case = λ b. tt;
    is_case = λ fluent args. tt;
    equal_case = λ sort t u g h. tt;
    less_case = λ sort t u g h. tt;
    at_most_case = λ sort t u g h. tt;
    not_case = λ c h. tt;
    and_case = λ cs h. tt;
    or_case = λ cs h. tt;
    some_case = λ x sort c h. tt;
    all_case = λ x sort c h. tt;
  }
    where
      arg-true : (arg : Arg) → BecomesTrue (term.Arg arg)
      arg-true (Const c) countable sorted some e =
          let is : is_true (term.Arg (Const c)) ≡ cond.Truth (nat_lt 0 c) = ap (λ l. layer_is_true l (term.Arg (Const c))) (term.outs-Arg (Const c)) in
          let below : c < sort_size agent bool_sort = ltb-true c (sort_size agent bool_sort) (sym (by.fits-arg agent (Const c) scope bool_sort) ∙ e) in
          let small : sort_size agent bool_sort ≤ 255 = sort_size-small agent bool_sort countable in (
            ap (λ c. cond_fits agent c scope) is ∙ by.fits-truth agent (nat_lt 0 c) scope,
            λ vs env. ap (λ c. truth_of agent vs c env) is ∙ by.truth-truth agent vs (nat_lt 0 c) env
                ∙ sym (ap (λ b. if b then truth (nat_lt 0 c) else Unknown) (lt-ltb c 255 (omega arith))) ∙ ap (comparison_of nat_lt 0) (sym (by.value-arg agent vs (Const c) env)),
          )
      arg-true (Var x) countable sorted some e =
          let u = term.Arg (Var x) in
          let is : is_true u ≡ cond.Not (cond.Equal bool_sort u zero_term) = ap (λ l. layer_is_true l u) (term.outs-Arg (Var x)) in
          let g = unequal-goes u sorted some e in
          (ap (λ c. cond_fits agent c scope) is ∙ g.0, λ vs env. ap (λ c. truth_of agent vs c env) is ∙ g.1 vs env)

  becomes_true : (t : Term) → BecomesTrue t
  becomes_true = conds.term_by_parts (λ c. Unit {0}) BecomesTrue true-cases

-- one more variable, set to a constant of its sort
sets-more : (agent : Agent) (scope : Scope) (env : Env) → Sets agent scope env → (x sort c : ℕ) → x < length env → c < sort_size agent sort → Sets agent (bound scope x sort) (slice_set env x c)
sets-more agent scope env set x sort c inside below = record { value = λ y s e. go y s (y == x) refl e }
  where
    go : (y s : ℕ) (b : Bool) → (y == x) ≡ b → (if b then Some sort else scope y) ≡ Some s → slice_index (slice_set env x c) y < sort_size agent s
    go y s true e k =
        let same : y ≡ x = eqb-true y x e in
        let of : sort ≡ s = some-same sort s k in
        subst (λ z. slice_index (slice_set env x c) z < sort_size agent s) (sym same)
        (subst (λ v. v < sort_size agent s) (sym (get_or-set_same env x c 0 inside)) (subst (λ z. c < sort_size agent z) of below))
    go y s false e k = subst (λ v. v < sort_size agent s) (sym (get_or-set_other env x y c 0 (eqb-false y x e))) (set.value y s k)

module _ (agent : Agent) (fits : WellFormed agent) (happened : Happened) (causes : List CauseItem) (vals : List ℕ) (happens : HappensIn agent happened vals) (effects : Effects agent happened causes) where
  -- the values after the action, each by the rule of the causes
  pub record Rules (vs ws : Values) : Type 0 where
    pub rule : (f : ℕ) (fluent : Ground) → slice_get (ground_fluents agent) f ≡ Some fluent → slice_index ws f ≡ value_by_causes agent vs causes (happened.action, vals) fluent (slice_index vs f)

  abbrev pub Before : Scope → At
  Before scope vs ws env to = Rules vs ws × (to ≡ env) × (length env ≡ 32) × Sets agent scope env

  abbrev BackCond : Cond → Type 0
  BackCond c = (scope : Scope) → GoesCond agent scope scope (Before scope) c (cond_back agent happened causes c)

  abbrev BackTerm : Term → Type 0
  BackTerm t = (scope : Scope) → GoesTerm agent scope scope (Before scope) t (term_back agent happened causes t)

  -- a fluent, and what the causes make of it
  fluent-goes : (scope : Scope) (fluent : ℕ) (args : List Arg) (sort : ℕ) → fluent_fits agent scope sort fluent args ≡ true
      → (term_fits agent (chain agent happened causes fluent args) scope sort ≡ true)
      × ((vs ws : Values) (env to : Env) → Before scope vs ws env to → value_of agent vs (chain agent happened causes fluent args) env ≡ fluent_value agent ws fluent (map (arg_value to) args))
  fluent-goes scope fluent args sort e =
      let i = has (λ (item : FluentItem). item.sort == sort && args_fit agent scope item.args args) (slice_get agent.fluents fluent) e in
      let k = and_cases (i.item.sort == sort) (args_fit agent scope i.item.args args) i.passes in
      let item_fits = and_cases (list_all (is_sort agent) i.item.args) (is_sort agent i.item.sort) (all-get (fluent_item_fits agent) agent.fluents fluent i.item fits.fluents i.is) in
      let g = chain_goes agent fits.countable scope happened vals happens fluent args i.item i.is item_fits.0 k.1 causes effects in (
        subst (λ s. term_fits agent (chain agent happened causes fluent args) scope s ≡ true) (eqb-true i.item.sort sort k.0) g.0,
        λ vs ws env to h.
            let at = map (arg_value env) args in
            let stands = fluent-stands agent fluent i.item at i.is (args-within agent scope env h.3 i.item.args args k.1) in
            g.1 vs env h.2 h.3
            ∙ ap (value_by_causes agent vs causes (happened.action, vals) (fluent, at)) (by.value-fluent agent vs fluent args env)
            ∙ sym (h.0.rule (fluent_no agent fluent at) (fluent, at) stands.stands)
            ∙ ap (λ v. fluent_value agent ws fluent (map (arg_value v) args)) (sym h.1),
      )

  bool_sorted : is_sort agent bool_sort ≡ true
  bool_sorted = lt-ltb 0 (length agent.sorts) (slice_get_within agent.sorts 0 bool_item (first-is agent.sorts bool_item fits.built_in.sorts))

  bool_some : 0 < sort_size agent bool_sort
  bool_some = subst (λ o. 0 < size_at o) (sym (first-is agent.sorts bool_item fits.built_in.sorts)) (omega arith)

  is-goes : (scope : Scope) (fluent : ℕ) (args : List Arg) → GoesCond agent scope scope (Before scope) (cond.Is fluent args) (is_true (chain agent happened causes fluent args))
  is-goes scope fluent args e =
      let g = fluent-goes scope fluent args bool_sort (sym (by.fits-is agent fluent args scope) ∙ e) in
      let t = becomes_true agent scope (chain agent happened causes fluent args) fits.countable bool_sorted bool_some g.0 in
      (t.0, λ vs ws env to h. t.1 vs env ∙ ap (comparison_of nat_lt 0) (g.1 vs ws env to h) ∙ sym (by.truth-is agent ws fluent args to))

  body-goes : (scope : Scope) (x sort : ℕ) (c : Cond) → BackCond c → binder_fits agent x sort ≡ true → GoesBody agent scope scope (Before scope) x x sort c (cond_back agent happened causes c)
  body-goes scope x sort c h e = record {
    binder = e;
    inner = Before (bound scope x sort);
    set = λ vs ws env to k v l.
        let inside : x < 32 = ltb-true x 32 (and_cases (nat_lt x 32) (is_sort agent sort) e).0 in
        (k.0, ap (λ u. slice_set u x v) k.1, length-set env x v ∙ k.2, sets-more agent scope env k.3 x sort v (subst (λ n. x < n) (sym k.2) inside) l);
    body = h (bound scope x sort);
  }

  back-cases : conds.Cases BackCond BackTerm
  back-cases = record {
    arg_case = λ arg scope. subst (GoesTerm agent scope scope (Before scope) (term.Arg arg)) (sym (back.back-arg agent happened causes arg))
        (λ sort e. (e, λ vs ws env to h. by.value-arg agent vs arg env ∙ ap (λ v. arg_value v arg) (sym h.1) ∙ sym (by.value-arg agent ws arg to)));
    fluent_case = λ fluent args scope. subst (GoesTerm agent scope scope (Before scope) (term.Fluent fluent args)) (sym (back.back-fluent agent happened causes fluent args))
        (λ sort e.
        let g = fluent-goes scope fluent args sort (sym (by.fits-fluent agent fluent args scope sort) ∙ e) in
        (g.0, λ vs ws env to h. g.1 vs ws env to h ∙ sym (by.value-fluent agent ws fluent args to)));
    shift_case = λ sort t amount h scope. subst (GoesTerm agent scope scope (Before scope) (term.Shift sort t amount)) (sym (back.back-shift agent happened causes sort t amount))
        (goes-shift agent scope scope (Before scope) sort t (term_back agent happened causes t) amount (h scope));
    ite_case = λ c t u f g h scope. subst (GoesTerm agent scope scope (Before scope) (term.Ite c t u)) (sym (back.back-ite agent happened causes c t u))
        (goes-ite agent scope scope (Before scope) c (cond_back agent happened causes c) t (term_back agent happened causes t) u (term_back agent happened causes u) (f scope) (g scope) (h scope));
    truth_case = λ b scope. subst (GoesCond agent scope scope (Before scope) (cond.Truth b)) (sym (back.back-truth agent happened causes b))
        (λ e. (e, λ vs ws env to h. by.truth-truth agent vs b env ∙ sym (by.truth-truth agent ws b to)));
    is_case = λ fluent args scope. subst (GoesCond agent scope scope (Before scope) (cond.Is fluent args)) (sym (back.back-is agent happened causes fluent args)) (is-goes scope fluent args);
    equal_case = λ sort t u g h scope. subst (GoesCond agent scope scope (Before scope) (cond.Equal sort t u)) (sym (back.back-equal agent happened causes sort t u))
        (goes-equal agent scope scope (Before scope) sort t (term_back agent happened causes t) u (term_back agent happened causes u) (g scope) (h scope));
    less_case = λ sort t u g h scope. subst (GoesCond agent scope scope (Before scope) (cond.Less sort t u)) (sym (back.back-less agent happened causes sort t u))
        (goes-less agent scope scope (Before scope) sort t (term_back agent happened causes t) u (term_back agent happened causes u) (g scope) (h scope));
    at_most_case = λ sort t u g h scope. subst (GoesCond agent scope scope (Before scope) (cond.AtMost sort t u)) (sym (back.back-at_most agent happened causes sort t u))
        (goes-at_most agent scope scope (Before scope) sort t (term_back agent happened causes t) u (term_back agent happened causes u) (g scope) (h scope));
    not_case = λ c h scope. subst (GoesCond agent scope scope (Before scope) (cond.Not c)) (sym (back.back-not agent happened causes c))
        (goes-not agent scope scope (Before scope) c (cond_back agent happened causes c) (h scope));
    and_case = λ cs h scope. subst (GoesCond agent scope scope (Before scope) (cond.And cs)) (sym (back.back-and agent happened causes cs))
        (goes-and agent scope scope (Before scope) (cond_back agent happened causes) cs (of-each (λ c g. g scope) cs h));
    or_case = λ cs h scope. subst (GoesCond agent scope scope (Before scope) (cond.Or cs)) (sym (back.back-or agent happened causes cs))
        (goes-or agent scope scope (Before scope) (cond_back agent happened causes) cs (of-each (λ c g. g scope) cs h));
    some_case = λ x sort c h scope. subst (GoesCond agent scope scope (Before scope) (cond.ForSome x sort c)) (sym (back.back-some agent happened causes x sort c))
        (goes-some agent scope scope (Before scope) x x sort c (cond_back agent happened causes c) (body-goes scope x sort c h));
    all_case = λ x sort c h scope. subst (GoesCond agent scope scope (Before scope) (cond.ForAll x sort c)) (sym (back.back-all agent happened causes x sort c))
        (goes-all agent scope scope (Before scope) x x sort c (cond_back agent happened causes c) (body-goes scope x sort c h));
  }

  pub taken_back : (c : Cond) → BackCond c
  taken_back = conds.cond_by_parts BackCond BackTerm back-cases
