-- What fits, and what is true, construct by construct.
use Rattle.std.proofs.Common.{◌≡◌, ℕ, ℤ, Bool, true, ◌&&◌, ◌==◌, List, map, ap}
use Rattle.std.specs.Prelude.{nat_lt, nat_le}
use Rattle.std.specs.List.{list_all}
use Rattle.golog_tree.specs.declared.agent.Agent.{Agent}
use Rattle.golog_tree.specs.declared.cond.Arg.{Arg}
use Rattle.golog_tree.specs.declared.cond.Truth.{Truth}
use Rattle.golog_tree.specs.declared.cond.Term.{Term}
use Rattle.golog_tree.specs.declared.cond.Cond.{Cond}
use Rattle.golog_tree.specs.declared.cond.Term.TheVariants as term
use Rattle.golog_tree.specs.declared.cond.Cond.TheVariants as cond
use Rattle.golog_tree.specs.Ground.{sort_size}
use Rattle.golog_semantics.specs.Truth.{Env, Values, truth, not_of, and_of, or_of, comparison_of, value_shifted, chosen, arg_value, fluent_value, for_each, cond_step, term_step, truth_of, value_of}
use Rattle.golog_semantics.specs.Fits.{Scope, bound, bool_sort, arg_fits, fluent_fits, is_sort, is_range, binder_fits, cond_fits, term_fits}
use Rattle.golog_semantics.specs.Fits as fits
use Rattle.golog_semantics.proofs.CondByParts as conds

abbrev pub A : Type 0
A = Scope → Bool

abbrev B : Type 0
B = Scope → ℕ → Bool

abbrev pub E : Type 0
E = Env → Truth

abbrev V : Type 0
V = Env → ℕ

module _ (agent : Agent) where
  pub fits-arg : (arg : Arg) (scope : Scope) (to : ℕ) → term_fits agent (term.Arg arg) scope to ≡ arg_fits agent scope to arg
  fits-arg arg scope to = ap (λ (f : B). f scope to) (conds.fold-arg A B (fits.cond_step agent) (fits.term_step agent) arg)

  pub fits-fluent : (fluent : ℕ) (args : List Arg) (scope : Scope) (to : ℕ) → term_fits agent (term.Fluent fluent args) scope to ≡ fluent_fits agent scope to fluent args
  fits-fluent fluent args scope to = ap (λ (f : B). f scope to) (conds.fold-fluent A B (fits.cond_step agent) (fits.term_step agent) fluent args)

  pub fits-shift : (sort : ℕ) (t : Term) (by : ℤ) (scope : Scope) (to : ℕ) → term_fits agent (term.Shift sort t by) scope to ≡ (sort == to && is_range agent to && term_fits agent t scope to)
  fits-shift sort t by scope to = ap (λ (f : B). f scope to) (conds.fold-shift A B (fits.cond_step agent) (fits.term_step agent) sort t by)

  pub fits-ite : (c : Cond) (t u : Term) (scope : Scope) (to : ℕ) → term_fits agent (term.Ite c t u) scope to ≡ (cond_fits agent c scope && term_fits agent t scope to && term_fits agent u scope to)
  fits-ite c t u scope to = ap (λ (f : B). f scope to) (conds.fold-ite A B (fits.cond_step agent) (fits.term_step agent) c t u)

  pub fits-truth : (b : Bool) (scope : Scope) → cond_fits agent (cond.Truth b) scope ≡ true
  fits-truth b scope = ap (λ (f : A). f scope) (conds.fold-truth A B (fits.cond_step agent) (fits.term_step agent) b)

  pub fits-is : (fluent : ℕ) (args : List Arg) (scope : Scope) → cond_fits agent (cond.Is fluent args) scope ≡ fluent_fits agent scope bool_sort fluent args
  fits-is fluent args scope = ap (λ (f : A). f scope) (conds.fold-is A B (fits.cond_step agent) (fits.term_step agent) fluent args)

  pub fits-equal : (sort : ℕ) (t u : Term) (scope : Scope) → cond_fits agent (cond.Equal sort t u) scope ≡ (is_sort agent sort && term_fits agent t scope sort && term_fits agent u scope sort)
  fits-equal sort t u scope = ap (λ (f : A). f scope) (conds.fold-equal A B (fits.cond_step agent) (fits.term_step agent) sort t u)

  pub fits-less : (sort : ℕ) (t u : Term) (scope : Scope) → cond_fits agent (cond.Less sort t u) scope ≡ (is_range agent sort && term_fits agent t scope sort && term_fits agent u scope sort)
  fits-less sort t u scope = ap (λ (f : A). f scope) (conds.fold-less A B (fits.cond_step agent) (fits.term_step agent) sort t u)

  pub fits-at_most : (sort : ℕ) (t u : Term) (scope : Scope) → cond_fits agent (cond.AtMost sort t u) scope ≡ (is_range agent sort && term_fits agent t scope sort && term_fits agent u scope sort)
  fits-at_most sort t u scope = ap (λ (f : A). f scope) (conds.fold-at_most A B (fits.cond_step agent) (fits.term_step agent) sort t u)

  pub fits-not : (c : Cond) (scope : Scope) → cond_fits agent (cond.Not c) scope ≡ cond_fits agent c scope
  fits-not c scope = ap (λ (f : A). f scope) (conds.fold-not A B (fits.cond_step agent) (fits.term_step agent) c)

  pub fits-and : (cs : List Cond) (scope : Scope) → cond_fits agent (cond.And cs) scope ≡ list_all (λ (test : A). test scope) (map (cond_fits agent) cs)
  fits-and cs scope = ap (λ (f : A). f scope) (conds.fold-and A B (fits.cond_step agent) (fits.term_step agent) cs)

  pub fits-or : (cs : List Cond) (scope : Scope) → cond_fits agent (cond.Or cs) scope ≡ list_all (λ (test : A). test scope) (map (cond_fits agent) cs)
  fits-or cs scope = ap (λ (f : A). f scope) (conds.fold-or A B (fits.cond_step agent) (fits.term_step agent) cs)

  pub fits-some : (x sort : ℕ) (c : Cond) (scope : Scope) → cond_fits agent (cond.ForSome x sort c) scope ≡ (binder_fits agent x sort && cond_fits agent c (bound scope x sort))
  fits-some x sort c scope = ap (λ (f : A). f scope) (conds.fold-some A B (fits.cond_step agent) (fits.term_step agent) x sort c)

  pub fits-all : (x sort : ℕ) (c : Cond) (scope : Scope) → cond_fits agent (cond.ForAll x sort c) scope ≡ (binder_fits agent x sort && cond_fits agent c (bound scope x sort))
  fits-all x sort c scope = ap (λ (f : A). f scope) (conds.fold-all A B (fits.cond_step agent) (fits.term_step agent) x sort c)

  module _ (values : Values) where
    pub value-arg : (arg : Arg) (env : Env) → value_of agent values (term.Arg arg) env ≡ arg_value env arg
    value-arg arg env = ap (λ (f : V). f env) (conds.fold-arg E V (cond_step agent values) (term_step agent values) arg)

    pub value-fluent : (fluent : ℕ) (args : List Arg) (env : Env) → value_of agent values (term.Fluent fluent args) env ≡ fluent_value agent values fluent (map (arg_value env) args)
    value-fluent fluent args env = ap (λ (f : V). f env) (conds.fold-fluent E V (cond_step agent values) (term_step agent values) fluent args)

    pub value-shift : (sort : ℕ) (t : Term) (by : ℤ) (env : Env) → value_of agent values (term.Shift sort t by) env ≡ value_shifted (sort_size agent sort) (value_of agent values t env) by
    value-shift sort t by env = ap (λ (f : V). f env) (conds.fold-shift E V (cond_step agent values) (term_step agent values) sort t by)

    pub value-ite : (c : Cond) (t u : Term) (env : Env) → value_of agent values (term.Ite c t u) env ≡ chosen (truth_of agent values c env) (value_of agent values t env) (value_of agent values u env)
    value-ite c t u env = ap (λ (f : V). f env) (conds.fold-ite E V (cond_step agent values) (term_step agent values) c t u)

    pub truth-truth : (b : Bool) (env : Env) → truth_of agent values (cond.Truth b) env ≡ truth b
    truth-truth b env = ap (λ (f : E). f env) (conds.fold-truth E V (cond_step agent values) (term_step agent values) b)

    pub truth-is : (fluent : ℕ) (args : List Arg) (env : Env) → truth_of agent values (cond.Is fluent args) env ≡ comparison_of nat_lt 0 (fluent_value agent values fluent (map (arg_value env) args))
    truth-is fluent args env = ap (λ (f : E). f env) (conds.fold-is E V (cond_step agent values) (term_step agent values) fluent args)

    pub truth-equal : (sort : ℕ) (t u : Term) (env : Env) → truth_of agent values (cond.Equal sort t u) env ≡ comparison_of (λ a b. a == b) (value_of agent values t env) (value_of agent values u env)
    truth-equal sort t u env = ap (λ (f : E). f env) (conds.fold-equal E V (cond_step agent values) (term_step agent values) sort t u)

    pub truth-less : (sort : ℕ) (t u : Term) (env : Env) → truth_of agent values (cond.Less sort t u) env ≡ comparison_of nat_lt (value_of agent values t env) (value_of agent values u env)
    truth-less sort t u env = ap (λ (f : E). f env) (conds.fold-less E V (cond_step agent values) (term_step agent values) sort t u)

    pub truth-at_most : (sort : ℕ) (t u : Term) (env : Env) → truth_of agent values (cond.AtMost sort t u) env ≡ comparison_of nat_le (value_of agent values t env) (value_of agent values u env)
    truth-at_most sort t u env = ap (λ (f : E). f env) (conds.fold-at_most E V (cond_step agent values) (term_step agent values) sort t u)

    pub truth-not : (c : Cond) (env : Env) → truth_of agent values (cond.Not c) env ≡ not_of (truth_of agent values c env)
    truth-not c env = ap (λ (f : E). f env) (conds.fold-not E V (cond_step agent values) (term_step agent values) c)

    pub truth-and : (cs : List Cond) (env : Env) → truth_of agent values (cond.And cs) env ≡ and_of (map (λ (t : E). t env) (map (truth_of agent values) cs))
    truth-and cs env = ap (λ (f : E). f env) (conds.fold-and E V (cond_step agent values) (term_step agent values) cs)

    pub truth-or : (cs : List Cond) (env : Env) → truth_of agent values (cond.Or cs) env ≡ or_of (map (λ (t : E). t env) (map (truth_of agent values) cs))
    truth-or cs env = ap (λ (f : E). f env) (conds.fold-or E V (cond_step agent values) (term_step agent values) cs)

    pub truth-some : (x sort : ℕ) (c : Cond) (env : Env) → truth_of agent values (cond.ForSome x sort c) env ≡ or_of (for_each agent (truth_of agent values c) env x sort)
    truth-some x sort c env = ap (λ (f : E). f env) (conds.fold-some E V (cond_step agent values) (term_step agent values) x sort c)

    pub truth-all : (x sort : ℕ) (c : Cond) (env : Env) → truth_of agent values (cond.ForAll x sort c) env ≡ and_of (for_each agent (truth_of agent values c) env x sort)
    truth-all x sort c env = ap (λ (f : E). f env) (conds.fold-all E V (cond_step agent values) (term_step agent values) x sort c)
