-- A term that fits a sort has a value of the sort, or an unknown one.
use Rattle.std.proofs.Common.{◌≡◌, ℕ, ◌<◌, Bool, true, false, ◌&&◌, ◌||◌, ◌==◌, if◌then◌else◌, List, [], ◌∷◌, map, refl, sym, ap, ◌∙◌, subst, Some, None, Option, arith, ℤ, pos, negsuc}
use Rattle.std.specs.Prelude.{nat_lt, slice_get, slice_index, length}
use Rattle.std.specs.Option.{option_map_or}
use Rattle.std.proofs.lemmas.Bool.{eqb-true, ltb-true, lt-ltb}
use Rattle.golog_tree.specs.declared.agent.Agent.{Agent}
use Rattle.golog_tree.specs.declared.agent.FluentItem.{FluentItem}
use Rattle.golog_tree.specs.declared.cond.Arg.{Arg}
use Rattle.golog_tree.specs.declared.cond.Arg.TheVariants.{Const, Var}
use Rattle.golog_tree.specs.declared.cond.Truth.{Truth}
use Rattle.golog_tree.specs.declared.cond.Term.{Term}
use Rattle.golog_tree.specs.declared.cond.Cond.{Cond}
use Rattle.golog_tree.specs.declared.cond.Cond.TheOpen.{Term-F, Arg as ArgTerm, Fluent, Shift, Ite}
use Rattle.golog_tree.specs.declared.cond.Cond.TheViews.{roll-Term}
use Rattle.golog_tree.specs.declared.cond.Cond.TheFolds.{ind-Term, map-Term, fold-roll-Term}
use Rattle.golog_tree.specs.Ground.{AreWithin, fluent_no, ground_fluents, sizes, sort_size}
use Rattle.golog_semantics.specs.Truth.{Env, Values, unknown, is_known, value_moved, value_shifted, arg_value, truth_of, value_of, term_step}
use Rattle.golog_semantics.specs.Values.{fluent_sort}
use Rattle.golog_semantics.specs.Fits.{Scope, arg_fits, args_fit, fluent_fits, is_range, term_fits, cond_fits}
use Rattle.golog_semantics.specs.Fits as fits
use Rattle.golog_semantics.specs.InSorts.{IsOf, AreInSorts}
use Rattle.golog_semantics.proofs.Computed.{value_roll}
use Rattle.golog_semantics.proofs.Words.{and-left, and-right}
use Rattle.golog_semantics.proofs.NumbersStand.{fluent-stands}
use Rattle.golog_semantics.proofs.SortsStay.{or-left, chosen-of, unknown-of}
use Rattle.std.proofs.lemmas.Option.{slice_get_within}

or-known : (a b : Bool) → (a || b) ≡ true → b ≡ false → a ≡ true
or-known true b h k = refl
or-known false b h k = absurd (cc)

different : (v : ℕ) → v < unknown → (v == unknown) ≡ false
different v less = other (v == unknown) refl
  where
    other : (b : Bool) → (v == unknown) ≡ b → (v == unknown) ≡ false
    other true e = absurd (let k : v ≡ unknown = eqb-true v unknown e in omega arith)
    other false e = e

module _ (agent : Agent) (values : Values) (sorts : AreInSorts agent values) where
  -- the value of each bound variable is of its sort
  abbrev pub Typed : Scope → Env → Type 0
  Typed scope env = (x sort : ℕ) → scope x ≡ Some sort → slice_index env x < sort_size agent sort

  bound-is : (o : Option ℕ) (sort : ℕ) → option_map_or (λ s. s == sort) o false ≡ true → o ≡ Some sort
  bound-is None sort h = absurd (cc)
  bound-is (Some s) sort h = ap Some (eqb-true s sort h)

  arg-within : (scope : Scope) (env : Env) → Typed scope env → (sort : ℕ) (arg : Arg) → arg_fits agent scope sort arg ≡ true → arg_value env arg < sort_size agent sort
  arg-within scope env typed sort (Const c) h = ltb-true c (sort_size agent sort) h
  arg-within scope env typed sort (Var x) h = typed x sort (bound-is (scope x) sort h)

  pub args-within : (scope : Scope) (env : Env) → Typed scope env → (ss : List ℕ) (args : List Arg) → args_fit agent scope ss args ≡ true → AreWithin (sizes agent ss) (map (arg_value env) args)
  args-within scope env typed [] [] h = tt
  args-within scope env typed [] (arg ∷ args) h = absurd (cc)
  args-within scope env typed (s ∷ ss) [] h = absurd (cc)
  args-within scope env typed (s ∷ ss) (arg ∷ args) h = (
    arg-within scope env typed s arg (and-left (arg_fits agent scope s arg) (args_fit agent scope ss args) h),
    args-within scope env typed ss args (and-right (arg_fits agent scope s arg) (args_fit agent scope ss args) h),
  )

  abbrev TermIsOf : Term → Type 0
  TermIsOf t = (scope : Scope) (sort : ℕ) (env : Env) → term_fits agent t scope sort ≡ true → Typed scope env → IsOf agent sort (value_of agent values t env)

  of-below : (sort v : ℕ) → v < sort_size agent sort → IsOf agent sort v
  of-below sort v h = or-left (nat_lt v (sort_size agent sort)) (v == unknown) (lt-ltb v (sort_size agent sort) h)

  fluent-of : (scope : Scope) (env : Env) → Typed scope env → (sort fluent : ℕ) (args : List Arg) (o : Option FluentItem) → slice_get agent.fluents fluent ≡ o
      → option_map_or (λ item. item.sort == sort && args_fit agent scope item.args args) o false ≡ true
      → IsOf agent sort (slice_index values (fluent_no agent fluent (map (arg_value env) args)))
  fluent-of scope env typed sort fluent args None e h = absurd (cc)
  fluent-of scope env typed sort fluent args (Some item) e h =
      let w = args-within scope env typed item.args args (and-right (item.sort == sort) (args_fit agent scope item.args args) h) in
      let stands = fluent-stands agent fluent item (map (arg_value env) args) e w in
      let number = fluent_no agent fluent (map (arg_value env) args) in
      let inside : number < length (ground_fluents agent) = slice_get_within (ground_fluents agent) number (fluent, map (arg_value env) args) stands.stands in
      let same : fluent_sort agent number ≡ sort = stands.sorted ∙ eqb-true item.sort sort (and-left (item.sort == sort) (args_fit agent scope item.args args) h) in
      subst (λ s. IsOf agent s (slice_index values number)) same (sorts.sorted number (subst (λ n. number < n) (sym sorts.whole) inside))

  moved-below : (size v : ℕ) (by : ℤ) → v < size → value_moved size v by < size
  moved-below size v (pos n) h = omega arith
  moved-below size v (negsuc n) h = omega arith

  shifted-of : (sort v : ℕ) (by : ℤ) → IsOf agent sort v → IsOf agent sort (value_shifted (sort_size agent sort) v by)
  shifted-of sort v by h = go (is_known v) refl
    where
      go : (b : Bool) → is_known v ≡ b → IsOf agent sort (if b then value_moved (sort_size agent sort) v by else unknown)
      go false e = unknown-of agent sort
      go true e =
          let known : v < unknown = ltb-true v unknown e in
          of-below sort (value_moved (sort_size agent sort) v by) (moved-below (sort_size agent sort) v by (ltb-true v (sort_size agent sort) (or-known (nat_lt v (sort_size agent sort)) (v == unknown) h (different v known))))

  abbrev SomeCond : Type 0
  SomeCond = (c : Cond) × Unit {0}

  abbrev SomeTerm : Type 0
  SomeTerm = (t : Term) × TermIsOf t

  abbrev terms : Term-F SomeCond SomeTerm → Term-F Cond Term
  terms y = map-Term SomeCond SomeTerm Cond Term (λ c. c.0) (λ t. t.0) y

  abbrev numbers : Term-F Cond Term → Term-F (Env → Truth) (Env → ℕ)
  numbers l = map-Term Cond Term (Env → Truth) (Env → ℕ) (truth_of agent values) (value_of agent values) l

  abbrev tests : Term-F Cond Term → Term-F (Scope → Bool) (Scope → ℕ → Bool)
  tests l = map-Term Cond Term (Scope → Bool) (Scope → ℕ → Bool) (cond_fits agent) (term_fits agent) l

  fits_roll : (l : Term-F Cond Term) (scope : Scope) (sort : ℕ) → term_fits agent (roll-Term l) scope sort ≡ fits.term_step agent (tests l) scope sort
  fits_roll l scope sort = ap (λ f. f scope sort) (fold-roll-Term (Scope → Bool) (Scope → ℕ → Bool) (fits.cond_step agent) (fits.term_step agent) l)

  term_layer : (y : Term-F SomeCond SomeTerm) (scope : Scope) (sort : ℕ) (env : Env) → fits.term_step agent (tests (terms y)) scope sort ≡ true → Typed scope env
      → IsOf agent sort (term_step agent values (numbers (terms y)) env)
  term_layer (ArgTerm arg) scope sort env h typed = of-below sort (arg_value env arg) (arg-within scope env typed sort arg h)
  term_layer (Fluent fluent args) scope sort env h typed = fluent-of scope env typed sort fluent args (slice_get agent.fluents fluent) refl h
  term_layer (Shift own t by) scope sort env h typed =
      let both = and-left (own == sort && is_range agent sort) (term_fits agent t.0 scope sort) h in
      let same : own ≡ sort = eqb-true own sort (and-left (own == sort) (is_range agent sort) both) in
      subst (λ s. IsOf agent sort (value_shifted (sort_size agent s) (value_of agent values t.0 env) by)) (sym same)
      (shifted-of sort (value_of agent values t.0 env) by (t.1 scope sort env (and-right (own == sort && is_range agent sort) (term_fits agent t.0 scope sort) h) typed))
  term_layer (Ite c one other) scope sort env h typed =
      let first = and-left (cond_fits agent c.0 scope && term_fits agent one.0 scope sort) (term_fits agent other.0 scope sort) h in
      chosen-of agent sort (truth_of agent values c.0 env) (value_of agent values one.0 env) (value_of agent values other.0 env)
      (one.1 scope sort env (and-right (cond_fits agent c.0 scope) (term_fits agent one.0 scope sort) first) typed)
      (other.1 scope sort env (and-right (cond_fits agent c.0 scope && term_fits agent one.0 scope sort) (term_fits agent other.0 scope sort) h) typed)

  term_case : (y : Term-F SomeCond SomeTerm) → TermIsOf (roll-Term (terms y))
  term_case y scope sort env h typed =
      subst (IsOf agent sort) (sym (value_roll agent values env (terms y))) (term_layer y scope sort env (sym (fits_roll (terms y) scope sort) ∙ h) typed)

  pub term_is_of : (t : Term) → TermIsOf t
  term_is_of = ind-Term (λ c. Unit {0}) TermIsOf (λ x y is. tt) (λ x y is. subst (λ l. TermIsOf (roll-Term l)) is (term_case y))
