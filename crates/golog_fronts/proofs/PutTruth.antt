-- A condition with constants put in is as true as it is where its variables have these values.
use Rattle.std.proofs.Common.{◌≡◌, ℕ, zero, suc, ◌+◌, ◌<◌, ◌≤◌, Bool, true, false, ◌==◌, if◌then◌else◌, List, [], ◌∷◌, ◌++◌, length, map, Option, Some, None, refl, sym, ap, ◌∙◌, subst, arith, get_or}
use Rattle.std.specs.Prelude.{nat_le, nat_lt, slice_index, slice_set}
use Rattle.std.proofs.lemmas.Bool.{eqb-true}
use Rattle.golog_tree.specs.declared.agent.Agent.{Agent}
use Rattle.golog_tree.specs.declared.agent.PossItem.{PossItem}
use Rattle.golog_tree.specs.declared.cond.Arg.{Arg}
use Rattle.golog_tree.specs.declared.cond.Arg.TheVariants.{Const, Var}
use Rattle.golog_tree.specs.declared.cond.Term.{Term}
use Rattle.golog_tree.specs.declared.cond.Term.TheVariants as term
use Rattle.golog_tree.specs.declared.cond.Cond.{Cond}
use Rattle.golog_tree.specs.declared.cond.Cond.TheVariants as cond
use Rattle.golog_tree.specs.declared.cond.Cond.TheOpen.{Cond-F, Term-F}
use Rattle.golog_tree.specs.declared.cond.Truth.{Truth}
use Rattle.golog_tree.specs.Ground.{sort_size}
use Rattle.golog_tree.specs.Substitute.{Put, arg_put, cond_put, term_put, within}
use Rattle.golog_semantics.specs.Fits.{args_fit, nothing_bound}
use Rattle.golog_semantics.specs.Truth.{Env, Values, and_of, arg_value, chosen, comparison_of, cond_step, constants, env_of, fluent_value, not_of, or_of, value_shifted, term_step, truth_of, value_of}
use Rattle.golog_semantics.proofs.ByParts.{OfEach}
use Rattle.golog_semantics.proofs.CondByParts.{Cases, cond_by_parts, fold-all, fold-and, fold-arg, fold-at_most, fold-equal, fold-fluent, fold-is, fold-ite, fold-less, fold-not, fold-or, fold-shift, fold-some, fold-truth, put-all, put-and, put-arg, put-at_most, put-equal, put-fluent, put-is, put-ite, put-less, put-not, put-or, put-shift, put-some, put-truth}
use Rattle.golog_semantics.proofs.Tests.{and_cases}
use Rattle.golog_fronts.specs.Puts.{cond_put_args, cond_put_one}

-- the variables with what is put in
abbrev with : Put → Env → Env
with None env = env
with (Some (x, v)) env = slice_set env x v

-- what is put in is put in for one of the variables
abbrev Inside : Put → Env → Type 0
Inside None env = Unit {0}
Inside (Some (x, v)) env = x < length env

set-length : (env : Env) (x v : ℕ) → length (slice_set env x v) ≡ length env
set-length [] x v = refl
set-length (e ∷ env) zero v = refl
set-length (e ∷ env) (suc x) v = ap suc (set-length env x v)

set-here : (env : Env) (x v : ℕ) → x < length env → slice_index (slice_set env x v) x ≡ v
set-here [] x v h = absurd (omega arith)
set-here (e ∷ env) zero v h = refl
set-here (e ∷ env) (suc x) v h = set-here env x v (omega arith)

-- numbers that differ
apart : (a b : ℕ) → (a == b) ≡ false → a ≡ b → ⊥
apart a b h e =
    let k : (a == a) ≡ true = grind arith in
    let l = ap (λ z. a == z) (sym e) ∙ k in
    cc (h, l)

set-there : (env : Env) (x y v : ℕ) → (y ≡ x → ⊥) → slice_index (slice_set env x v) y ≡ slice_index env y
set-there [] x y v h = refl
set-there (e ∷ env) zero zero v h = absurd (h refl)
set-there (e ∷ env) zero (suc y) v h = refl
set-there (e ∷ env) (suc x) zero v h = refl
set-there (e ∷ env) (suc x) (suc y) v h = set-there env x y v (λ k. h (ap suc k))

set-again : (env : Env) (x v w : ℕ) → slice_set (slice_set env x v) x w ≡ slice_set env x w
set-again [] x v w = refl
set-again (e ∷ env) zero v w = refl
set-again (e ∷ env) (suc x) v w = ap (λ es. e ∷ es) (set-again env x v w)

set-swap : (env : Env) (x y v w : ℕ) → (y ≡ x → ⊥) → slice_set (slice_set env y w) x v ≡ slice_set (slice_set env x v) y w
set-swap [] x y v w h = refl
set-swap (e ∷ env) zero zero v w h = absurd (h refl)
set-swap (e ∷ env) zero (suc y) v w h = refl
set-swap (e ∷ env) (suc x) zero v w h = refl
set-swap (e ∷ env) (suc x) (suc y) v w h = ap (λ es. e ∷ es) (set-swap env x y v w (λ k. h (ap suc k)))

map-all : {A : Type 0} (f g : A → Truth) (xs : List A) → ((x : A) → f x ≡ g x) → map f xs ≡ map g xs
map-all f g [] h = refl
map-all f g (x ∷ xs) h = let e = h x in let k = map-all f g xs h in cc

two : {D : Type 0} (f : ℕ → ℕ → D) (a b c d : ℕ) → a ≡ b → c ≡ d → f a c ≡ f b d
two f a b c d e k = ap (λ z. f z c) e ∙ ap (f b) k

map-map : {A B D : Type 0} (f : A → B) (g : B → D) (xs : List A) → map g (map f xs) ≡ map (λ x. g (f x)) xs
map-map f g [] = refl
map-map f g (x ∷ xs) = ap (λ ys. g (f x) ∷ ys) (map-map f g xs)

-- an argument with a constant put in
arg-case : (x v y : ℕ) (env : Env) (b : Bool) → (y == x) ≡ b → x < length env → arg_value env (if b then Const v else Var y) ≡ slice_index (slice_set env x v) y
arg-case x v y env true e h = sym (ap (slice_index (slice_set env x v)) (eqb-true y x e) ∙ set-here env x v h)
arg-case x v y env false e h = sym (set-there env x y v (apart y x e))

arg-put : (put : Put) (arg : Arg) (env : Env) → Inside put env → arg_value env (arg_put put arg) ≡ arg_value (with put env) arg
arg-put None arg env h = refl
arg-put (Some (x, v)) (Const c) env h = refl
arg-put (Some (x, v)) (Var y) env h = arg-case x v y env (y == x) refl h

args-put : (put : Put) (args : List Arg) (env : Env) → Inside put env → map (arg_value env) (map (arg_put put) args) ≡ map (arg_value (with put env)) args
args-put put [] env h = refl
args-put put (arg ∷ args) env h = let e = arg-put put arg env h in let k = args-put put args env h in cc

-- within a binder
inside-case : (x v y w : ℕ) (env : Env) (b : Bool) → x < length env → Inside (if b then None else Some (x, v)) (slice_set env y w)
inside-case x v y w env true h = tt
inside-case x v y w env false h = subst (λ n. x < n) (sym (set-length env y w)) h

inside-within : (put : Put) (y w : ℕ) (env : Env) → Inside put env → Inside (within y put) (slice_set env y w)
inside-within None y w env h = tt
inside-within (Some (x, v)) y w env h = inside-case x v y w env (y == x) h

with-case : (x v y w : ℕ) (env : Env) (b : Bool) → (y == x) ≡ b → with (if b then None else Some (x, v)) (slice_set env y w) ≡ slice_set (slice_set env x v) y w
with-case x v y w env true e = sym (ap (λ z. slice_set (slice_set env z v) y w) (sym (eqb-true y x e)) ∙ set-again env y v w)
with-case x v y w env false e = set-swap env x y v w (apart y x e)

with-within : (put : Put) (y w : ℕ) (env : Env) → with (within y put) (slice_set env y w) ≡ slice_set (with put env) y w
with-within None y w env = refl
with-within (Some (x, v)) y w env = with-case x v y w env (y == x) refl

-- constants alone
abbrev pub Constants : List Arg → Type 0
Constants [] = Unit {0}
Constants (Const c ∷ args) = Constants args
Constants (Var x ∷ args) = ⊥

module _ (agent : Agent) (values : Values) where
  abbrev TC : Type 0
  TC = Env → Truth

  abbrev TT : Type 0
  TT = Env → ℕ

  abbrev of : Cond → Env → Truth
  of = truth_of agent values

  abbrev val : Term → Env → ℕ
  val = value_of agent values

  abbrev cs : Cond-F TC TT → TC
  cs = cond_step agent values

  abbrev ts : Term-F TC TT → TT
  ts = term_step agent values

  abbrev PutCond : Cond → Type 0
  PutCond c = (put : Put) (env : Env) → Inside put env → of (cond_put c put) env ≡ of c (with put env)

  abbrev PutTerm : Term → Type 0
  PutTerm t = (put : Put) (env : Env) → Inside put env → val (term_put t put) env ≡ val t (with put env)

  each-put : (conds : List Cond) → OfEach PutCond conds → (put : Put) (env : Env) → Inside put env
      → map (λ (f : TC). f env) (map of (map (λ c. cond_put c put) conds)) ≡ map (λ (f : TC). f (with put env)) (map of conds)
  each-put [] h put env i = refl
  each-put (c ∷ conds) h put env i = let e = h.0 put env i in let k = each-put conds h.1 put env i in cc

  binder : (c : Cond) → PutCond c → (y : ℕ) (put : Put) (env : Env) → Inside put env → (w : ℕ) → of (cond_put c (within y put)) (slice_set env y w) ≡ of c (slice_set (with put env) y w)
  binder c h y put env i w = h (within y put) (slice_set env y w) (inside-within put y w env i) ∙ ap (of c) (with-within put y w env)

  put_cases : Cases PutCond PutTerm
  put_cases = record {
    arg_case = λ arg put env i.
        ap (λ t. val t env) (put-arg arg put) ∙ ap (λ (f : TT). f env) (fold-arg TC TT cs ts (arg_put put arg)) ∙ arg-put put arg env i
        ∙ sym (ap (λ (f : TT). f (with put env)) (fold-arg TC TT cs ts arg));
    fluent_case = λ fluent args put env i.
        ap (λ t. val t env) (put-fluent fluent args put) ∙ ap (λ (f : TT). f env) (fold-fluent TC TT cs ts fluent (map (arg_put put) args))
        ∙ ap (fluent_value agent values fluent) (args-put put args env i)
        ∙ sym (ap (λ (f : TT). f (with put env)) (fold-fluent TC TT cs ts fluent args));
    shift_case = λ sort t by h put env i.
        ap (λ u. val u env) (put-shift sort t by put) ∙ ap (λ (f : TT). f env) (fold-shift TC TT cs ts sort (term_put t put) by)
        ∙ ap (λ n. value_shifted (sort_size agent sort) n by) (h put env i)
        ∙ sym (ap (λ (f : TT). f (with put env)) (fold-shift TC TT cs ts sort t by));
    ite_case = λ c t u h k l put env i.
        let e = h put env i in let f = k put env i in let d = l put env i in
        ap (λ w. val w env) (put-ite c t u put) ∙ ap (λ (f : TT). f env) (fold-ite TC TT cs ts (cond_put c put) (term_put t put) (term_put u put))
        ∙ ap (λ b. chosen b (val (term_put t put) env) (val (term_put u put) env)) e
        ∙ ap (λ n. chosen (of c (with put env)) n (val (term_put u put) env)) f
        ∙ ap (chosen (of c (with put env)) (val t (with put env))) d
        ∙ sym (ap (λ (f : TT). f (with put env)) (fold-ite TC TT cs ts c t u));
    truth_case = λ b put env i.
        ap (λ c. of c env) (put-truth b put) ∙ ap (λ (f : TC). f env) (fold-truth TC TT cs ts b)
        ∙ sym (ap (λ (f : TC). f (with put env)) (fold-truth TC TT cs ts b));
    is_case = λ fluent args put env i.
        ap (λ c. of c env) (put-is fluent args put) ∙ ap (λ (f : TC). f env) (fold-is TC TT cs ts fluent (map (arg_put put) args))
        ∙ ap (λ vs. comparison_of nat_lt 0 (fluent_value agent values fluent vs)) (args-put put args env i)
        ∙ sym (ap (λ (f : TC). f (with put env)) (fold-is TC TT cs ts fluent args));
    equal_case = λ sort t u h k put env i.
        ap (λ c. of c env) (put-equal sort t u put) ∙ ap (λ (f : TC). f env) (fold-equal TC TT cs ts sort (term_put t put) (term_put u put))
        ∙ two (λ a b. comparison_of (λ x y. x == y) a b) (val (term_put t put) env) (val t (with put env)) (val (term_put u put) env) (val u (with put env)) (h put env i) (k put env i)
        ∙ sym (ap (λ (f : TC). f (with put env)) (fold-equal TC TT cs ts sort t u));
    less_case = λ sort t u h k put env i.
        ap (λ c. of c env) (put-less sort t u put) ∙ ap (λ (f : TC). f env) (fold-less TC TT cs ts sort (term_put t put) (term_put u put))
        ∙ two (comparison_of nat_lt) (val (term_put t put) env) (val t (with put env)) (val (term_put u put) env) (val u (with put env)) (h put env i) (k put env i)
        ∙ sym (ap (λ (f : TC). f (with put env)) (fold-less TC TT cs ts sort t u));
    at_most_case = λ sort t u h k put env i.
        ap (λ c. of c env) (put-at_most sort t u put) ∙ ap (λ (f : TC). f env) (fold-at_most TC TT cs ts sort (term_put t put) (term_put u put))
        ∙ two (comparison_of nat_le) (val (term_put t put) env) (val t (with put env)) (val (term_put u put) env) (val u (with put env)) (h put env i) (k put env i)
        ∙ sym (ap (λ (f : TC). f (with put env)) (fold-at_most TC TT cs ts sort t u));
    not_case = λ c h put env i.
        ap (λ d. of d env) (put-not c put) ∙ ap (λ (f : TC). f env) (fold-not TC TT cs ts (cond_put c put))
        ∙ ap not_of (h put env i) ∙ sym (ap (λ (f : TC). f (with put env)) (fold-not TC TT cs ts c));
    and_case = λ conds h put env i.
        ap (λ d. of d env) (put-and conds put) ∙ ap (λ (f : TC). f env) (fold-and TC TT cs ts (map (λ c. cond_put c put) conds))
        ∙ ap and_of (each-put conds h put env i) ∙ sym (ap (λ (f : TC). f (with put env)) (fold-and TC TT cs ts conds));
    or_case = λ conds h put env i.
        ap (λ d. of d env) (put-or conds put) ∙ ap (λ (f : TC). f env) (fold-or TC TT cs ts (map (λ c. cond_put c put) conds))
        ∙ ap or_of (each-put conds h put env i) ∙ sym (ap (λ (f : TC). f (with put env)) (fold-or TC TT cs ts conds));
    some_case = λ y sort c h put env i.
        ap (λ d. of d env) (put-some y sort c put) ∙ ap (λ (f : TC). f env) (fold-some TC TT cs ts y sort (cond_put c (within y put)))
        ∙ ap or_of (map-all (λ w. of (cond_put c (within y put)) (slice_set env y w)) (λ w. of c (slice_set (with put env) y w)) (constants agent sort) (binder c h y put env i))
        ∙ sym (ap (λ (f : TC). f (with put env)) (fold-some TC TT cs ts y sort c));
    all_case = λ y sort c h put env i.
        ap (λ d. of d env) (put-all y sort c put) ∙ ap (λ (f : TC). f env) (fold-all TC TT cs ts y sort (cond_put c (within y put)))
        ∙ ap and_of (map-all (λ w. of (cond_put c (within y put)) (slice_set env y w)) (λ w. of c (slice_set (with put env) y w)) (constants agent sort) (binder c h y put env i))
        ∙ sym (ap (λ (f : TC). f (with put env)) (fold-all TC TT cs ts y sort c));
  }

  -- a condition with a constant put in for a variable
  pub truth-put : (c : Cond) (x v : ℕ) (env : Env) → x < length env → of (cond_put c (Some (x, v))) env ≡ of c (slice_set env x v)
  truth-put c x v env h = cond_by_parts PutCond PutTerm put_cases c (Some (x, v)) env h

  -- the variables from this one on set to these values
  abbrev set_from : Env → ℕ → List ℕ → Env
  set_from env i [] = env
  set_from env i (v ∷ vs) = slice_set (set_from env (i + 1) vs) i v

  from-length : (env : Env) (i : ℕ) (vs : List ℕ) → length (set_from env i vs) ≡ length env
  from-length env i [] = refl
  from-length env i (v ∷ vs) = set-length (set_from env (i + 1) vs) i v ∙ from-length env (i + 1) vs

  abbrev values_in : Env → List Arg → List ℕ
  values_in env args = map (arg_value env) args

  puts : (args : List Arg) (c : Cond) (i : ℕ) (env : Env) → Constants args → i + length args ≤ length env → of (cond_put_args c i args) env ≡ of c (set_from env i (values_in env args))
  puts [] c i env k h = refl
  puts (Const v ∷ args) c i env k h =
      puts args (cond_put c (Some (i, v))) (i + 1) env k (omega arith)
      ∙ truth-put c i v (set_from env (i + 1) (values_in env args)) (let e = from-length env (i + 1) (values_in env args) in omega arith)
  puts (Var x ∷ args) c i env k h = absurd k

  set-few : (vs : List ℕ) → length vs ≤ 3 → set_from (env_of []) 0 vs ≡ env_of vs
  unfolding env_of
  set-few [] h = refl
  set-few (a ∷ []) h = refl
  set-few (a ∷ b ∷ []) h = refl
  set-few (a ∷ b ∷ c ∷ []) h = refl
  set-few (a ∷ b ∷ c ∷ d ∷ vs) h = absurd (omega arith)

  length-values : (env : Env) (args : List Arg) → length (values_in env args) ≡ length args
  length-values env [] = refl
  length-values env (arg ∷ args) = ap suc (length-values env args)

  env-length : length (env_of []) ≡ 32
  unfolding env_of
  env-length = refl

  -- a condition with the arguments put in
  pub truth-puts : (c : Cond) (args : List Arg) → Constants args → length args ≤ 3
      → of (cond_put_args c 0 args) (env_of []) ≡ of c (env_of (map (arg_value (env_of [])) args))
  truth-puts c args k h =
      puts args c 0 (env_of []) k (let e = env-length in omega arith)
      ∙ ap (of c) (set-few (values_in (env_of []) args) (subst (λ n. n ≤ 3) (sym (length-values (env_of []) args)) h))

-- where no variable is bound, arguments that fit are constants
pub constants-fit : (agent : Agent) (sorts : List ℕ) (args : List Arg) → args_fit agent nothing_bound sorts args ≡ true → Constants args
constants-fit agent sorts [] h = tt
constants-fit agent [] (arg ∷ args) h = absurd (cc)
constants-fit agent (s ∷ sorts) (Const c ∷ args) h = constants-fit agent sorts args (and_cases _ (args_fit agent nothing_bound sorts args) h).1
constants-fit agent (s ∷ sorts) (Var x ∷ args) h = absurd (cc)
