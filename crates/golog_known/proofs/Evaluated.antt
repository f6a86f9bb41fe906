-- What a fluent, a term or a condition that can be evaluated says of its parts.
use Rattle.std.proofs.Common.{◌≡◌, ℕ, zero, suc, ◌<◌, ◌≤◌, ◌≢◌, get_or-set_other, Bool, true, false, ◌&&◌, ◌==◌, if◌then◌else◌, List, [], ◌∷◌, map, length, refl, sym, ap, ◌∙◌, subst, Some, None, Option, arith}
use Rattle.std.specs.Prelude.{All, nat_lt, slice_get, slice_index, slice_set}
use Rattle.std.specs.List.{list_all}
use Rattle.std.specs.Option.{option_map_or}
use Rattle.std.proofs.lemmas.Bool.{eqb-true, eqb-false, ltb-true}
use Rattle.golog_tree.specs.declared.agent.Agent.{Agent}
use Rattle.golog_tree.specs.declared.agent.FluentItem.{FluentItem}
use Rattle.golog_tree.specs.declared.cond.Arg.{Arg}
use Rattle.golog_tree.specs.declared.cond.Arg.TheVariants.{Const, Var}
use Rattle.golog_tree.specs.declared.cond.Cond.{Cond}
use Rattle.golog_tree.specs.declared.cond.Cond.TheVariants as cond
use Rattle.golog_tree.specs.Ground.{AreWithin, IsCountable, args_at, fluent_args, sizes, sort_size}
use Rattle.golog_semantics.specs.Truth.{Env, arg_value}
use Rattle.golog_semantics.specs.Fits.{Scope, bound, arg_fits, args_fit, is_sort, binder_fits, cond_fits, cond_step, term_step}
use Rattle.std.proofs.lemmas.List.{length-map}
use Rattle.golog_tree.proofs.Decoded.{args_at-get_or}
use Rattle.golog_semantics.proofs.CondByParts as conds
use Rattle.golog_semantics.proofs.GroundNumbers.{some-same}
use Rattle.golog_semantics.proofs.Words.{and-left, and-right}
use Rattle.golog_semantics.proofs.NumbersStand.{fluent_args-at}
use Rattle.golog_known.specs.Fits.{Sets, FluentFitsAt, CondFitsAt}

module _ (agent : Agent) (scope : Scope) (env : Env) (set : Sets agent scope env) where
  bound-is : (o : Option ℕ) (sort : ℕ) → option_map_or (λ s. s == sort) o false ≡ true → o ≡ Some sort
  bound-is None sort h = absurd (cc)
  bound-is (Some s) sort h = ap Some (eqb-true s sort h)

  arg-within : (sort : ℕ) (arg : Arg) → arg_fits agent scope sort arg ≡ true → arg_value env arg < sort_size agent sort
  arg-within sort (Const c) h = ltb-true c (sort_size agent sort) h
  arg-within sort (Var x) h = set.value x sort (bound-is (scope x) sort h)

  pub args-within : (ss : List ℕ) (args : List Arg) → args_fit agent scope ss args ≡ true → AreWithin (sizes agent ss) (map (arg_value env) args)
  args-within [] [] h = tt
  args-within [] (arg ∷ args) h = absurd (cc)
  args-within (s ∷ ss) [] h = absurd (cc)
  args-within (s ∷ ss) (arg ∷ args) h = (
    arg-within s arg (and-left (arg_fits agent scope s arg) (args_fit agent scope ss args) h),
    args-within ss args (and-right (arg_fits agent scope s arg) (args_fit agent scope ss args) h),
  )

  args-count : (ss : List ℕ) (args : List Arg) → args_fit agent scope ss args ≡ true → length args ≡ length ss
  args-count [] [] h = refl
  args-count [] (arg ∷ args) h = absurd (cc)
  args-count (s ∷ ss) [] h = absurd (cc)
  args-count (s ∷ ss) (arg ∷ args) h = ap suc (args-count ss args (and-right (arg_fits agent scope s arg) (args_fit agent scope ss args) h))

-- a fluent of the agent, with as many arguments as it wants, each of its sort
pub record FluentIs (agent : Agent) (fluent : ℕ) (args : List Arg) (env : Env) : Type 0 where
  pub inside : fluent < length agent.fluents
  pub few : length args ≤ 3
  pub within : AreWithin (sizes agent (args_at (fluent_args agent) fluent)) (map (arg_value env) args)

module _ (agent : Agent) (countable : IsCountable agent) (fluent : ℕ) (args : List Arg) (env : Env) where
  few-args : (item : FluentItem) → slice_get agent.fluents fluent ≡ Some item → length item.args ≤ 3
  few-args item e =
      let at = fluent_args-at agent agent.fluents fluent item e in
      let inside : fluent < length (fluent_args agent) = subst (λ n. fluent < n) (sym (length-map agent.fluents (λ f. f.args))) at.1 in
      subst (λ xs. length xs ≤ 3) (sym (args_at-get_or (fluent_args agent) fluent) ∙ at.0) (countable.fluent_arities fluent [] inside)

  is-of : (scope : Scope) → Sets agent scope env → (sort : ℕ) (o : Option FluentItem) → slice_get agent.fluents fluent ≡ o
      → option_map_or (λ item. item.sort == sort && args_fit agent scope item.args args) o false ≡ true → FluentIs agent fluent args env
  is-of scope set sort None e h = absurd (cc)
  is-of scope set sort (Some item) e h =
      let at = fluent_args-at agent agent.fluents fluent item e in
      let fit = and-right (item.sort == sort) (args_fit agent scope item.args args) h in
      record {
        inside = at.1;
        few = subst (λ n. n ≤ 3) (sym (args-count agent scope env set item.args args fit)) (few-args item e);
        within = subst (λ ss. AreWithin (sizes agent ss) (map (arg_value env) args)) (sym at.0) (args-within agent scope env set item.args args fit);
      }

  pub fluent_is : FluentFitsAt agent fluent args env → FluentIs agent fluent args env
  fluent_is f = is-of f.scope f.set f.sort (slice_get agent.fluents fluent) refl f.fits

and-parts : (agent : Agent) (scope : Scope) (cs : List Cond) → list_all (λ (test : Scope → Bool). test scope) (map (cond_fits agent) cs) ≡ true → All (λ c. cond_fits agent c scope ≡ true) cs
and-parts agent scope [] h i d within = absurd (omega arith)
and-parts agent scope (c ∷ cs) h zero d within = and-left (cond_fits agent c scope) (list_all (λ (test : Scope → Bool). test scope) (map (cond_fits agent) cs)) h
and-parts agent scope (c ∷ cs) h (suc i) d within =
    and-parts agent scope cs (and-right (cond_fits agent c scope) (list_all (λ (test : Scope → Bool). test scope) (map (cond_fits agent) cs)) h) i d (omega arith)

-- a variable that is set to a value below a bound has one below it
set-below : (env : Env) (x c n : ℕ) → c < n → slice_index (slice_set env x c) x < n
set-below [] x c n h = omega arith
set-below (v ∷ env) zero c n h = h
set-below (v ∷ env) (suc x) c n h = set-below env x c n h

module _ (agent : Agent) (env : Env) where
  abbrev A : Type 0
  A = Scope → Bool

  abbrev B : Type 0
  B = Scope → ℕ → Bool

  parts-of : (scope : Scope) → Sets agent scope env → (cs : List Cond) → list_all (λ (test : Scope → Bool). test scope) (map (cond_fits agent) cs) ≡ true → All (λ c. CondFitsAt agent c env) cs
  parts-of scope set cs h i d within = record { scope = scope; fits = and-parts agent scope cs h i d within; set = set }

  -- each condition of a conjunction can be evaluated
  pub parts-And : (cs : List Cond) → CondFitsAt agent (cond.And cs) env → All (λ c. CondFitsAt agent c env) cs
  parts-And cs f = parts-of f.scope f.set cs (sym (ap (λ (test : A). test f.scope) (conds.fold-and A B (cond_step agent) (term_step agent) cs)) ∙ f.fits)

  -- each condition of a disjunction can be evaluated
  pub parts-Or : (cs : List Cond) → CondFitsAt agent (cond.Or cs) env → All (λ c. CondFitsAt agent c env) cs
  parts-Or cs f = parts-of f.scope f.set cs (sym (ap (λ (test : A). test f.scope) (conds.fold-or A B (cond_step agent) (term_step agent) cs)) ∙ f.fits)

  -- the scope with one more variable, which is set to a constant of its sort
  sets-bound : (scope : Scope) → Sets agent scope env → (x sort c : ℕ) → c < sort_size agent sort → Sets agent (bound scope x sort) (slice_set env x c)
  sets-bound scope set x sort c below = record { value = λ y s e. go y s (y == x) refl e }
    where
      go : (y s : ℕ) (b : Bool) → (y == x) ≡ b → (if b then Some sort else scope y) ≡ Some s → slice_index (slice_set env x c) y < sort_size agent s
      go y s true e k =
          let same : x ≡ y = sym (eqb-true y x e) in
          let of : sort ≡ s = some-same sort s k in
          subst (λ z. slice_index (slice_set env x c) z < sort_size agent s) same (set-below env x c (sort_size agent s) (subst (λ z. c < sort_size agent z) of below))
      go y s false e k =
          let other : y ≢ x = eqb-false y x e in
          rw get_or-set_other (set.value y s k)

  -- the condition under a binder can be evaluated with each constant of the sort
  pub record BodyFits (x sort : ℕ) (body : Cond) : Type 0 where
    pub variable : x < 32
    pub fits : (c : ℕ) → c < sort_size agent sort → CondFitsAt agent body (slice_set env x c)

  body-of : (scope : Scope) → Sets agent scope env → (x sort : ℕ) (body : Cond) → (binder_fits agent x sort && cond_fits agent body (bound scope x sort)) ≡ true → BodyFits x sort body
  body-of scope set x sort body h =
      let binder = and-left (binder_fits agent x sort) (cond_fits agent body (bound scope x sort)) h in
      let variable : x < 32 = ltb-true x 32 (and-left (nat_lt x 32) (is_sort agent sort) binder) in
      record {
        variable = variable;
        fits = λ c below. record {
          scope = bound scope x sort;
          fits = and-right (binder_fits agent x sort) (cond_fits agent body (bound scope x sort)) h;
          set = sets-bound scope set x sort c below;
        };
      }

  pub body-ForSome : (x sort : ℕ) (body : Cond) → CondFitsAt agent (cond.ForSome x sort body) env → BodyFits x sort body
  body-ForSome x sort body f =
      body-of f.scope f.set x sort body (sym (ap (λ (test : A). test f.scope) (conds.fold-some A B (cond_step agent) (term_step agent) x sort body)) ∙ f.fits)

  pub body-ForAll : (x sort : ℕ) (body : Cond) → CondFitsAt agent (cond.ForAll x sort body) env → BodyFits x sort body
  body-ForAll x sort body f =
      body-of f.scope f.set x sort body (sym (ap (λ (test : A). test f.scope) (conds.fold-all A B (cond_step agent) (term_step agent) x sort body)) ∙ f.fits)
