-- Checks made of conditions, by the parts of these.
use Rattle.std.proofs.Common.{◌≡◌, ℕ, ◌<◌, ◌≤◌, Bool, true, false, not, ◌==◌, ◌&&◌, List, [], length, map, take, get_or, refl, sym, ap, ◌∙◌, subst}
use Rattle.std.specs.Prelude.{if◌then◌else◌, nat_le, nat_lt, slice_index, slice_set}
use Rattle.std.specs.List.{list_all, range_with_len}
use Rattle.std.proofs.lemmas.Bool.{le-leb, lt-leb, ltb-false, ltb-true}
use Rattle.std.proofs.lemmas.List.{take_all}
use Rattle.std.proofs.lemmas.List.Folds.{list_all-map}
use Rattle.std.proofs.lemmas.List.Sums.{AllPass-from_list_all}
use Rattle.golog_tree.specs.declared.agent.Agent.{Agent}
use Rattle.golog_tree.specs.declared.cond.Arg.{Arg}
use Rattle.golog_tree.specs.declared.cond.Term.{Term}
use Rattle.golog_tree.specs.declared.cond.Cond.{Cond}
use Rattle.golog_tree.specs.declared.cond.Cond.TheVariants as cond
use Rattle.golog_tree.specs.declared.cond.Truth.{Truth}
use Rattle.golog_tree.specs.declared.cond.Truth.TheVariants.{Yes, No, Unknown}
use Rattle.golog_tree.specs.Ground.{fluent_no, sort_size}
use Rattle.golog_semantics.specs.Fits.{Scope, bool_sort, cond_fits, cond_step as fits_step, is_range, is_sort, nothing_bound, term_fits, term_step as fits_term}
use Rattle.golog_semantics.specs.Truth.{Env, Values, arg_value, comparison_of, cond_step, env_of, is_known, not_of, term_step, truth, truth_of, value_of}
use Rattle.golog_semantics.proofs.CondByParts as conds
use Rattle.golog_semantics.proofs.Tests.{and_cases}
use Rattle.golog_known.specs.Fits.{CondFitsAt, FluentFitsAt}
use Rattle.golog_known.proofs.Evaluated.{BodyFits, body-ForAll, body-ForSome, parts-And, parts-Or}
use Rattle.golog_known.proofs.Folds.{truth_of-And, truth_of-Or}
use Rattle.golog_flat.specs.declared.check.Check.{Check}
use Rattle.golog_flat.specs.declared.check.Check.TheVariants as kind
use Rattle.golog_flat.specs.declared.check.Check.TheOpen.{Other}
use Rattle.golog_flat.specs.declared.check.Check.TheFolds.{fold-roll-Check}
use Rattle.golog_flat.specs.declared.sides.Side.{Side}
use Rattle.golog_flat.specs.Checks.{Tells, check_fits, check_step, check_truth, fits_step as check_fits_step, turned}
use Rattle.golog_flat.specs.Making.{EqualFits, IsMadeOf, IsSide, Stands, TellJoined, all_or_one, cond_joined, cond_order, cond_over, cond_turned, joined, joins_all, side_value}
use Rattle.golog_flat.proofs.Joins.{joined-fits, joined-truth, turned-joined}

module _ (agent : Agent) where
  abbrev Test : Type 0
  Test = Scope → Bool

  abbrev Sorted : Type 0
  Sorted = Scope → ℕ → Bool

  -- the conditions of a conjunction or of a disjunction fit where it does
  all-fit : (conjunction : Bool) (cs : List Cond) (scope : Scope) → cond_fits agent (cond_joined conjunction cs) scope ≡ list_all (λ c. cond_fits agent c scope) cs
  all-fit true cs scope = ap (λ (test : Test). test scope) (conds.fold-and Test Sorted (fits_step agent) (fits_term agent) cs) ∙ list_all-map (λ (test : Test). test scope) (cond_fits agent) cs
  all-fit false cs scope = ap (λ (test : Test). test scope) (conds.fold-or Test Sorted (fits_step agent) (fits_term agent) cs) ∙ list_all-map (λ (test : Test). test scope) (cond_fits agent) cs

  part-fits : (conjunction : Bool) (cs : List Cond) (env : Env) (i : ℕ) (c : Cond) → i < length cs → CondFitsAt agent (cond_joined conjunction cs) env → CondFitsAt agent (get_or cs i c) env
  part-fits true cs env i c h f = parts-And agent env cs f i c h
  part-fits false cs env i c h f = parts-Or agent env cs f i c h

  pub stands-part : (conjunction : Bool) (cs : List Cond) (env : Env) (bound : Bool) (i : ℕ) (c : Cond) → i < length cs → c ≡ get_or cs i c → Stands agent (cond_joined conjunction cs) env bound → Stands agent c env bound
  stands-part conjunction cs env bound i c h e s = record {
    fits = subst (λ d. CondFitsAt agent d env) (sym e) (part-fits conjunction cs env i c h s.fits);
    closed = λ b.
        subst (λ d. cond_fits agent d nothing_bound ≡ true) (sym e)
        (AllPass-from_list_all (λ d. cond_fits agent d nothing_bound) cs (sym (all-fit conjunction cs nothing_bound) ∙ s.closed b) i c h);
    empty = s.empty;
  }

  not-fits : (c : Cond) (scope : Scope) → cond_fits agent (cond.Not c) scope ≡ cond_fits agent c scope
  not-fits c scope = ap (λ (test : Test). test scope) (conds.fold-not Test Sorted (fits_step agent) (fits_term agent) c)

  pub stands-not : (c : Cond) (env : Env) (bound : Bool) → Stands agent (cond.Not c) env bound → Stands agent c env bound
  stands-not c env bound s = record {
    fits = let f = s.fits in record { scope = f.scope; fits = sym (not-fits c f.scope) ∙ f.fits; set = f.set };
    closed = λ b. sym (not-fits c nothing_bound) ∙ s.closed b;
    empty = s.empty;
  }

  pub truth-not : (values : Values) (c : Cond) (env : Env) → truth_of agent values (cond.Not c) env ≡ not_of (truth_of agent values c env)
  truth-not values c env = ap (λ (f : Env → Truth). f env) (conds.fold-not (Env → Truth) (Env → ℕ) (cond_step agent values) (term_step agent values) c)

  pub each-fits : (universal : Bool) (x sort : ℕ) (body : Cond) (env : Env) → CondFitsAt agent (cond_over universal x sort body) env → BodyFits agent env x sort body
  each-fits true x sort body env f = body-ForAll agent env x sort body f
  each-fits false x sort body env f = body-ForSome agent env x sort body f

  -- under a binder
  pub stands-bound : (c : Cond) (env : Env) → CondFitsAt agent c env → Stands agent c env true
  stands-bound c env f = record { fits = f; closed = λ b. absurd (cc); empty = λ b. absurd (cc) }

  truth-joined : (values : Values) (conjunction : Bool) (cs : List Cond) (env : Env) → truth_of agent values (cond_joined conjunction cs) env ≡ all_or_one conjunction (map (λ c. truth_of agent values c env) cs)
  truth-joined values true cs env = truth_of-And agent values cs env
  truth-joined values false cs env = truth_of-Or agent values cs env

  truth-over : (values : Values) (universal : Bool) (x sort : ℕ) (body : Cond) (env : Env) → truth_of agent values (cond_over universal x sort body) env
      ≡ all_or_one universal (map (λ c. truth_of agent values body (slice_set env x c)) (range_with_len 0 (sort_size agent sort)))
  truth-over values true x sort body env = ap (λ (f : Env → Truth). f env) (conds.fold-all (Env → Truth) (Env → ℕ) (cond_step agent values) (term_step agent values) x sort body)
  truth-over values false x sort body env = ap (λ (f : Env → Truth). f env) (conds.fold-some (Env → Truth) (Env → ℕ) (cond_step agent values) (term_step agent values) x sort body)

  truth-plain : (values : Values) (b : Bool) (env : Env) → truth_of agent values (cond.Truth b) env ≡ truth b
  truth-plain values b env = ap (λ (f : Env → Truth). f env) (conds.fold-truth (Env → Truth) (Env → ℕ) (cond_step agent values) (term_step agent values) b)

  truth-is : (values : Values) (fluent : ℕ) (args : List Arg) (env : Env) → truth_of agent values (cond.Is fluent args) env ≡ comparison_of nat_lt 0 (slice_index values (fluent_no agent fluent (map (arg_value env) args)))
  truth-is values fluent args env = ap (λ (f : Env → Truth). f env) (conds.fold-is (Env → Truth) (Env → ℕ) (cond_step agent values) (term_step agent values) fluent args)

  truth-equal : (values : Values) (sort : ℕ) (t u : Term) (env : Env) → truth_of agent values (cond.Equal sort t u) env ≡ comparison_of (λ a b. a == b) (value_of agent values t env) (value_of agent values u env)
  truth-equal values sort t u env = ap (λ (f : Env → Truth). f env) (conds.fold-equal (Env → Truth) (Env → ℕ) (cond_step agent values) (term_step agent values) sort t u)

  made-as : (d : Cond) (env : Env) (negated : Bool) (check : Check) (t : Values → Truth) → Tells agent (λ values. turned negated (t values)) check
      → ((values : Values) → truth_of agent values d env ≡ t values) → IsMadeOf agent d env negated check
  made-as d env negated check t h e = record { fits = h.fits; same = λ values. h.same values ∙ ap (turned negated) (sym (e values)) }

  pub made-plain : (d : Cond) (b : Bool) → d ≡ cond.Truth b → (env : Env) (negated : Bool) (check : Check) → Tells agent (λ values. turned negated (truth b)) check → IsMadeOf agent d env negated check
  made-plain d b is env negated check h = made-as d env negated check (λ values. truth b) h (λ values. ap (λ x. truth_of agent values x env) is ∙ truth-plain values b env)

  pub made-is : (d : Cond) (fluent : ℕ) (args : List Arg) → d ≡ cond.Is fluent args → (env : Env) (negated : Bool) (check : Check) (place : ℕ) → place ≡ fluent_no agent fluent (map (arg_value env) args)
      → Tells agent (λ values. turned negated (comparison_of nat_lt 0 (slice_index values place))) check → IsMadeOf agent d env negated check
  made-is d fluent args is env negated check place number h =
      made-as d env negated check (λ values. comparison_of nat_lt 0 (slice_index values place)) h
      (λ values. ap (λ x. truth_of agent values x env) is ∙ truth-is values fluent args env ∙ ap (λ k. comparison_of nat_lt 0 (slice_index values k)) (sym number))

  pub made-equal : (sort : ℕ) (t u : Term) (env : Env) (negated : Bool) (one other : Side) → IsSide agent t env one → IsSide agent u env other → (check : Check)
      → Tells agent (λ values. turned negated (comparison_of (λ a b. a == b) (side_value values one) (side_value values other))) check → IsMadeOf agent (cond.Equal sort t u) env negated check
  made-equal sort t u env negated one other h k check told =
      made-as (cond.Equal sort t u) env negated check (λ values. comparison_of (λ a b. a == b) (side_value values one) (side_value values other)) told
      (λ values.
      truth-equal values sort t u env
      ∙ ap (λ v. comparison_of (λ a b. a == b) v (value_of agent values u env)) (h.same values)
      ∙ ap (λ v. comparison_of (λ a b. a == b) (side_value values one) v) (k.same values))

  -- what is not below is at most: so it is where both are known, and else both are unknown
  not-below : (a b : ℕ) → not_of (comparison_of nat_lt b a) ≡ comparison_of nat_le a b
  not-below a b = at (is_known a) (is_known b) (nat_lt b a) (nat_le a b) (le-not (nat_lt b a) refl)
    where
      le-not : (x : Bool) → nat_lt b a ≡ x → nat_le a b ≡ not x
      le-not true e = lt-leb a b (ltb-true b a e)
      le-not false e = le-leb a b (ltb-false b a e)

      at : (k l x y : Bool) → y ≡ not x → not_of (if l && k then truth x else Unknown) ≡ (if k && l then truth y else Unknown)
      at true true true y e = ap truth (sym e)
      at true true false y e = ap truth (sym e)
      at true false x y e = refl
      at false true x y e = refl
      at false false x y e = refl

  turned-not : (negated : Bool) (t : Truth) → turned (not negated) t ≡ turned negated (not_of t)
  turned-not true Yes = refl
  turned-not true No = refl
  turned-not true Unknown = refl
  turned-not false t = refl

  truth-less : (values : Values) (sort : ℕ) (t u : Term) (env : Env) → truth_of agent values (cond.Less sort t u) env ≡ comparison_of nat_lt (value_of agent values t env) (value_of agent values u env)
  truth-less values sort t u env = ap (λ (f : Env → Truth). f env) (conds.fold-less (Env → Truth) (Env → ℕ) (cond_step agent values) (term_step agent values) sort t u)

  truth-at_most : (values : Values) (sort : ℕ) (t u : Term) (env : Env) → truth_of agent values (cond.AtMost sort t u) env ≡ comparison_of nat_le (value_of agent values t env) (value_of agent values u env)
  truth-at_most values sort t u env = ap (λ (f : Env → Truth). f env) (conds.fold-at_most (Env → Truth) (Env → ℕ) (cond_step agent values) (term_step agent values) sort t u)

  module _ (sort : ℕ) (t u : Term) (env : Env) (negated : Bool) (one other : Side) (h : IsSide agent t env one) (k : IsSide agent u env other) (check : Check) where
    pub made-less : Tells agent (λ values. turned negated (comparison_of nat_lt (side_value values one) (side_value values other))) check → IsMadeOf agent (cond.Less sort t u) env negated check
    made-less told =
        made-as (cond.Less sort t u) env negated check (λ values. comparison_of nat_lt (side_value values one) (side_value values other)) told
        (λ values.
        truth-less values sort t u env
        ∙ ap (λ v. comparison_of nat_lt v (value_of agent values u env)) (h.same values)
        ∙ ap (λ v. comparison_of nat_lt (side_value values one) v) (k.same values))

    pub made-at_most : Tells agent (λ values. turned (not negated) (comparison_of nat_lt (side_value values other) (side_value values one))) check → IsMadeOf agent (cond.AtMost sort t u) env negated check
    made-at_most told = record {
      fits = told.fits;
      same = λ values.
          told.same values
          ∙ turned-not negated (comparison_of nat_lt (side_value values other) (side_value values one))
          ∙ ap (turned negated)
          (not-below (side_value values one) (side_value values other)
          ∙ sym (truth-at_most values sort t u env
          ∙ ap (λ v. comparison_of nat_le v (value_of agent values u env)) (h.same values)
          ∙ ap (λ v. comparison_of nat_le (side_value values one) v) (k.same values)));
    }

  pub made-not : (c : Cond) (env : Env) (negated : Bool) (check : Check) → IsMadeOf agent c env (not negated) check → IsMadeOf agent (cond.Not c) env negated check
  made-not c env negated check h = record {
    fits = h.fits;
    same = λ values. h.same values ∙ turned-not negated (truth_of agent values c env) ∙ ap (turned negated) (sym (truth-not values c env));
  }

  pub made-other : (c : Cond) (negated : Bool) (d : Cond) → d ≡ cond_turned negated c → (env : Env) → env ≡ env_of [] → cond_fits agent c nothing_bound ≡ true → IsMadeOf agent c env negated (kind.Other d)
  made-other c negated d is env empty h = record {
    fits = fits-other d ∙ ap (λ x. cond_fits agent x nothing_bound) is ∙ fits-turned negated ∙ h;
    same = λ values.
        truth-other values d ∙ ap (λ x. truth_of agent values x (env_of [])) is ∙ truth-turned values negated
        ∙ ap (λ v. turned negated (truth_of agent values c v)) (sym empty);
  }
    where
      fits-other : (x : Cond) → check_fits agent (kind.Other x) ≡ cond_fits agent x nothing_bound
      fits-other x = ap (check_fits agent) (sym (kind.rolls-Other x)) ∙ fold-roll-Check Bool (check_fits_step agent) (Other x)

      truth-other : (values : Values) (x : Cond) → check_truth agent values (kind.Other x) ≡ truth_of agent values x (env_of [])
      truth-other values x = ap (check_truth agent values) (sym (kind.rolls-Other x)) ∙ fold-roll-Check Truth (check_step agent values) (Other x)

      fits-turned : (b : Bool) → cond_fits agent (cond_turned b c) nothing_bound ≡ cond_fits agent c nothing_bound
      fits-turned true = not-fits c nothing_bound
      fits-turned false = refl

      truth-turned : (values : Values) (b : Bool) → truth_of agent values (cond_turned b c) (env_of []) ≡ turned b (truth_of agent values c (env_of []))
      truth-turned values true = truth-not values c (env_of [])
      truth-turned values false = refl

  pub is-fits : (fluent : ℕ) (args : List Arg) (env : Env) → CondFitsAt agent (cond.Is fluent args) env → FluentFitsAt agent fluent args env
  is-fits fluent args env f = record {
    scope = f.scope;
    sort = bool_sort;
    fits = sym (ap (λ (test : Test). test f.scope) (conds.fold-is Test Sorted (fits_step agent) (fits_term agent) fluent args)) ∙ f.fits;
    set = f.set;
  }

  pub equal-fits : (sort : ℕ) (t u : Term) (env : Env) → CondFitsAt agent (cond.Equal sort t u) env → EqualFits agent t u env
  equal-fits sort t u env f =
      let sides = sym (ap (λ (test : Test). test f.scope) (conds.fold-equal Test Sorted (fits_step agent) (fits_term agent) sort t u)) ∙ f.fits in
      let both = and_cases (is_sort agent sort && term_fits agent t f.scope sort) (term_fits agent u f.scope sort) sides in
      let first = and_cases (is_sort agent sort) (term_fits agent t f.scope sort) both.0 in
      record {
        one_fits = record { scope = f.scope; sort = sort; fits = first.1; set = f.set };
        other_fits = record { scope = f.scope; sort = sort; fits = both.1; set = f.set };
      }

  order-sides : (strict : Bool) (sort : ℕ) (t u : Term) (scope : Scope) → cond_fits agent (cond_order strict sort t u) scope ≡ (is_range agent sort && term_fits agent t scope sort && term_fits agent u scope sort)
  order-sides true sort t u scope = ap (λ (test : Test). test scope) (conds.fold-less Test Sorted (fits_step agent) (fits_term agent) sort t u)
  order-sides false sort t u scope = ap (λ (test : Test). test scope) (conds.fold-at_most Test Sorted (fits_step agent) (fits_term agent) sort t u)

  pub order-fits : (strict : Bool) (sort : ℕ) (t u : Term) (env : Env) → CondFitsAt agent (cond_order strict sort t u) env → EqualFits agent t u env
  order-fits strict sort t u env f =
      let both = and_cases (is_range agent sort && term_fits agent t f.scope sort) (term_fits agent u f.scope sort) (sym (order-sides strict sort t u f.scope) ∙ f.fits) in
      let first = and_cases (is_range agent sort) (term_fits agent t f.scope sort) both.0 in
      record {
        one_fits = record { scope = f.scope; sort = sort; fits = first.1; set = f.set };
        other_fits = record { scope = f.scope; sort = sort; fits = both.1; set = f.set };
      }

  -- what a condition is to tell
  abbrev pub Told : Bool → Env → Values → Cond → Truth
  Told negated env values c = turned negated (truth_of agent values c env)

  -- what the body of a binder is to tell with a constant
  abbrev pub ToldAt : Bool → Cond → Env → ℕ → Values → ℕ → Truth
  ToldAt negated body env x values c = turned negated (truth_of agent values body (slice_set env x c))

  -- the checks so far, of so many conditions
  abbrev pub PartsSoFar : Bool → List Cond → Env → ℕ → Bool → List Check → Type 0
  PartsSoFar negated cs env i all parts = TellJoined agent all (λ values. all_or_one all (map (Told negated env values) (take i cs))) parts

  -- the checks so far, with so many constants
  abbrev pub EachSoFar : Bool → Cond → Env → ℕ → ℕ → Bool → List Check → Type 0
  EachSoFar negated body env x n all parts = TellJoined agent all (λ values. all_or_one all (map (ToldAt negated body env x values) (range_with_len 0 n))) parts

  pub no-parts : (told : Values → Truth) (all : Bool) (parts : List Check) → parts ≡ [] → ((values : Values) → all_or_one all [] ≡ told values) → TellJoined agent all told parts
  no-parts told all parts e h = record {
    fits = ap (list_all (check_fits agent)) e;
    same = λ values. ap (λ cs. all_or_one all (map (check_truth agent values) cs)) e ∙ h values;
  }

  module _ (conjunction negated all : Bool) (parts : List Check) (check : Check) (e : all ≡ joins_all conjunction negated) (is : check ≡ joined all parts) where
    told-joined : (told next : Values → Truth) → TellJoined agent all told parts → ((values : Values) → told values ≡ next values) → Tells agent next check
    told-joined told next h k = record {
      fits = ap (check_fits agent) is ∙ joined-fits agent all parts ∙ h.fits;
      same = λ values. ap (check_truth agent values) is ∙ joined-truth agent values all parts ∙ h.same values ∙ k values;
    }

    pub made-parts : (cs : List Cond) (env : Env) (i : ℕ) → length cs ≤ i → PartsSoFar negated cs env i all parts → IsMadeOf agent (cond_joined conjunction cs) env negated check
    made-parts cs env i l h =
        told-joined (λ values. all_or_one all (map (Told negated env values) (take i cs))) (λ values. turned negated (truth_of agent values (cond_joined conjunction cs) env)) h
        (λ values.
        ap (λ xs. all_or_one all (map (Told negated env values) xs)) (take_all i cs l)
        ∙ ap (λ a. all_or_one a (map (Told negated env values) cs)) e
        ∙ turned-joined (λ c. truth_of agent values c env) conjunction negated cs
        ∙ ap (turned negated) (sym (truth-joined values conjunction cs env)))

    pub made-each : (body : Cond) (env : Env) (x sort n : ℕ) → n ≡ sort_size agent sort → EachSoFar negated body env x n all parts → IsMadeOf agent (cond_over conjunction x sort body) env negated check
    made-each body env x sort n size h =
        told-joined (λ values. all_or_one all (map (ToldAt negated body env x values) (range_with_len 0 n))) (λ values. turned negated (truth_of agent values (cond_over conjunction x sort body) env)) h
        (λ values.
        ap (λ k. all_or_one all (map (ToldAt negated body env x values) (range_with_len 0 k))) size
        ∙ ap (λ a. all_or_one a (map (ToldAt negated body env x values) (range_with_len 0 (sort_size agent sort)))) e
        ∙ turned-joined (λ c. truth_of agent values body (slice_set env x c)) conjunction negated (range_with_len 0 (sort_size agent sort))
        ∙ ap (turned negated) (sym (truth-over values conjunction x sort body env)))
